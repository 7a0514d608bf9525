use native.Mathlib.Omega.{arith}
use Rattle.prelude.specs.SpliceLaws.{set_splice}
use Rattle.tables.proofs.store.write_count.Goals as goal

pub returns-in-Classes : goal.returns-in-Classes
returns-in-Classes c =
    rw c.in-Classes.is
    (set_splice 0 c.args.n c.args.store.now (omega (arith, c.requires.0)))
