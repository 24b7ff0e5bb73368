-- `word_for`: each word is found by its own function, which asks for the words that are known for it.
use Rattle.producer.proofs.fill.word_for.Goals as goal

pub returns-in-Leader-clause-word_is : goal.returns-in-Leader-clause-word_is
returns-in-Leader-clause-word_is c =
    rw c.in-Leader.is c.leader_of.ensures.leader_is

pub returns-in-OutDistance-clause-word_is : goal.returns-in-OutDistance-clause-word_is
returns-in-OutDistance-clause-word_is c =
    rw c.in-OutDistance.is c.distance_of.ensures.word_is

pub returns-in-InDepth-clause-word_is : goal.returns-in-InDepth-clause-word_is
returns-in-InDepth-clause-word_is c =
    rw c.in-InDepth.is c.depth_of.ensures.word_is

pub returns-in-OutField-clause-word_is : goal.returns-in-OutField-clause-word_is
returns-in-OutField-clause-word_is c =
    rw c.in-OutField.is c.out_field_of.ensures

pub returns-in-InField-clause-word_is : goal.returns-in-InField-clause-word_is
returns-in-InField-clause-word_is c =
    rw c.in-InField.is c.in_field_of.ensures
