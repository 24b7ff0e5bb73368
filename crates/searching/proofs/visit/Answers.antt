use native.Mathlib.Omega.{arith}
use Rattle.searching.proofs.Lookups.{facts}
use Rattle.searching.proofs.visit.Goals as goal

pub enter-n-requires-clause-f_lt_fields : goal.enter-n-requires-clause-f_lt_fields
enter-n-requires-clause-f_lt_fields c =
    omega (arith, (facts c.requires.entering.help).inside c.args.s.0 c.requires.s_lt_types)
