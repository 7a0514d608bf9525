use Rattle.rules_unique.proofs.Places.{Apart, Marked}
use Rattle.rules_unique.specs.Marks.{marks_width}
use Rattle.schema.specs.Store.{schema_in}
use lib.ListN.{length}
use mathlib.Core.Path.{◌≡◌}
use Rattle.rules_unique.proofs.marks.any_repeated.Given as goal

abbrev pub invariant-loop-p : goal.invariant-loop-p
invariant-loop-p l = (length l.marks ≡ marks_width) × (Marked l.key
    (schema_in l.attributes l.classes) l.p l.marks × Apart l.key (schema_in l.attributes l.classes) l.p)
