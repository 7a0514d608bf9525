-- A field that cannot be read is told by its tag.
use Rattle.std.specs.Prelude.{Err}
use mathlib.Core.List.{List}
use mathlib.Core.Path.{◌≡◌, sym, ap, ◌∙◌}
use Prim.Native.Nat.{ℕ}
use Rattle.wire.specs.declared.BadField.{BadField}
use Rattle.wire.specs.FieldRead.{FieldRead, Bad}
use Rattle.wire.specs.Wire.{field_at}
use Rattle.wire.specs.WireLaws.{field_bad}
use Rattle.rows_format.specs.declared.column.Column.{Column}
use Rattle.rows_read.specs.Reading.{turn_of}
use Rattle.rows_read.specs.ReadingLaws.{turn_bad}

pub turn_cut : (s : List ℕ) (r : Column) (at end : ℕ) (f : FieldRead) (bad : BadField) → f ≡ field_at s at end → f ≡ Err bad
    → Err bad ≡ turn_of s at r (field_at s at end)
turn_cut s r at end f bad e h = ap Bad (field_bad s at end bad (sym e ∙ h)) ∙ turn_bad s r at end e h
