use Rattle.rising.proofs.lists.is_member_of.Goals as goal

pub has_member_named-requires-clause-rising_members : goal.has_member_named-requires-clause-rising_members
has_member_named-requires-clause-rising_members c = rw c.requires.sorted.size c.requires.sorted.members
