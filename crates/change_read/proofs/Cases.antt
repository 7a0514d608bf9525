-- Each way that reading a change can go, from what the code's tests leave.
use Rattle.std.specs.Prelude.{Some, None, Option, Err}
use mathlib.Core.Bool.{true, false}
use mathlib.Core.List.{List, [], ◌∷◌}
use mathlib.Core.Path.{◌≡◌, refl, ◌∙◌}
use Prim.Native.Nat.{ℕ}
use lib.Dec.{eqb}
use lib.ListN.{length}
use Rattle.prelude.specs.Unlike.{Unlike, among}
use Rattle.prelude.specs.UnlikeLaws.{unlike_key}
use Rattle.wire.specs.FieldRead.{FieldRead}
use Rattle.wire.specs.declared.BadField.{BadField}
use Rattle.wire.specs.Wire.{field_at}
use Rattle.rows_format.specs.declared.format.Format.{Format}
use Rattle.rows_read.specs.RowRead.{RowRead}
use Rattle.rows_read.specs.ObjectClass.{read_row}
use Rattle.change_read.specs.declared.read.Change.{Change}
use Rattle.change_read.specs.ChangeRead.{ChangeRead}
use Rattle.change_read.specs.ChangeRead.{Read, Bad}
use Rattle.change_read.specs.Reading.{Came, scratch, change_of, format_of, whole_read, tagged_out, field_out, read_change, read_value}
use Rattle.wire.specs.FieldRead as fields
use Rattle.rows_read.specs.RowRead as rows

-- ---- no tag of a change

abbrev change_tags : List ℕ
change_tags = 74 ∷ 73 ∷ 72 ∷ 71 ∷ 70 ∷ 69 ∷ 68 ∷ 67 ∷ 66 ∷ 65 ∷ 64 ∷ []

pub no_change : (tag : ℕ) → Unlike tag change_tags → None ≡ change_of tag
unfolding change_of among
no_change tag h =
    rw (no 64 refl, no 65 refl, no 66 refl, no 67 refl, no 68 refl, no 69 refl, no 70 refl, no 71 refl, no 72 refl, no 73 refl, no 74 refl)
  where
    no : (x : ℕ) → among change_tags x ≡ true → eqb tag x ≡ false
    no = unlike_key tag change_tags h

-- ---- a value

module _ (change : Change) (s : List ℕ) (start stop : ℕ) (row : List ℕ) (zero : row ≡ scratch) (format : Format) (is : format ≡ format_of change)
    (r : RowRead) (new : List ℕ)
    (read : (r ≡ (read_row format s start stop row).answer) × (new ≡ (read_row format s start stop row).row)) where
  pub value_bad : (bad : BadField) (answer : ChangeRead) → r ≡ Err bad → answer ≡ Err bad → Came answer new (read_value change s start stop)
  unfolding read_value whole_read
  value_bad bad answer e p = record { answer = p ∙ rw (← zero, ← is, ← read.0, e); row = rw (← zero, ← is) read.1 }

  pub value_read_lem : r ≡ rows.Read → eqb stop (length s) ≡ true → Came (Read change) new (read_value change s start stop)
  unfolding read_value whole_read
  value_read_lem e h = record { answer = rw (← zero, ← is, ← read.0, e, h); row = rw (← zero, ← is) read.1 }

  pub value_followed : r ≡ rows.Read → eqb stop (length s) ≡ false → Came (Bad stop) new (read_value change s start stop)
  unfolding read_value whole_read
  value_followed e h = record { answer = rw (← zero, ← is, ← read.0, e, h); row = rw (← zero, ← is) read.1 }

-- ---- a whole field, by its tag

module _ (tagged : Option Change) (tag : ℕ) (is : tagged ≡ change_of tag) (s : List ℕ) (start stop : ℕ) where
  pub tagged_unknown : (row : List ℕ) → row ≡ scratch → tagged ≡ None → Came (Bad 0) row (tagged_out (change_of tag) s start stop)
  unfolding tagged_out
  tagged_unknown row zero e = record { answer = rw (← is, e); row = rw (← is, e) zero }

  pub tagged_known : (change : Change) (answer : ChangeRead) (new : List ℕ) → tagged ≡ Some change → Came answer new (read_value change s start stop)
      → Came answer new (tagged_out (change_of tag) s start stop)
  unfolding tagged_out
  tagged_known change answer new e h = record { answer = rw (← is, e) h.answer; row = rw (← is, e) h.row }

-- ---- the field in front

module _ (s : List ℕ) (field : FieldRead) (is : field ≡ field_at s 0 (length s)) where
  -- one that is cut, told by its own place
  pub front_bad : (row : List ℕ) (bad : BadField) (answer : ChangeRead) → row ≡ scratch → field ≡ Err bad → answer ≡ Err bad → Came answer row (read_change s)
  unfolding read_change field_out
  front_bad row bad answer zero e p = record { answer = p ∙ rw (← is, e); row = rw (← is, e) zero }

  -- none
  pub front_none : (row : List ℕ) → row ≡ scratch → field ≡ fields.End → Came (Bad 0) row (read_change s)
  unfolding read_change field_out
  front_none row zero e = record { answer = rw (← is, e); row = rw (← is, e) zero }

  pub front_whole : (tag start stop : ℕ) (answer : ChangeRead) (new : List ℕ) → field ≡ fields.Field tag start stop
      → Came answer new (tagged_out (change_of tag) s start stop)
      → Came answer new (read_change s)
  unfolding read_change field_out
  front_whole tag start stop answer new e h = record { answer = rw (← is, e) h.answer; row = rw (← is, e) h.row }
