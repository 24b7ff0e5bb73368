-- What a case asks of its answer.
use Rattle.std.specs.Prelude.{ℕ, ◌*◌, Ok, Err}
use Rattle.table.specs.declared.refusal.Malformed.{Malformed}
use Rattle.chains.specs.Work.{work_words}
use Rattle.lhakvuni.specs.declared.refusal.Refusal.{Refusal}
use Rattle.lhakvuni.specs.declared.refusal.Refusal.TheVariants.{Malformed as Refused, ShortOut}
use Rattle.boards.specs.declared.cases.Want.{Want}

abbrev pub want_rows : (n types : ℕ) → Want
want_rows n types = record { table = Ok tt; answer = Ok n; zeros = work_words * types }

abbrev pub want_table : Malformed → Want
want_table malformed = record { table = Err malformed; answer = Err (Refused malformed); zeros = 0 }

abbrev pub want_call : Refusal → Want
want_call refusal = record { table = Ok tt; answer = Err refusal; zeros = 0 }

abbrev pub want_short : (need types : ℕ) → Want
want_short need types = record { table = Ok tt; answer = Err (ShortOut need); zeros = work_words * types }
