-- Bytes of a row's lists, and those of them that can be passed over.
use mathlib.Core.Bool.{Bool, true, false, not, ◌&&◌, ◌||◌, true≢false}
use mathlib.Core.List.{List}
use mathlib.Core.Path.{◌≡◌, refl, sym, ap, ap₂, ◌∙◌}
use Prim.Native.Nat.{ℕ, ◌+◌, ◌*◌, ◌/◌, ◌≤◌, ◌<◌}
use native.Mathlib.Omega.{arith}
use lib.Dec.{eqb}
use lib.ListN.{length, get_or}
use Rattle.prelude.specs.Part.{part}
use Rattle.prelude.specs.PartLaws.{part_length}
use Rattle.prelude.specs.SaysLaws.{says_eq, says_false}
use Rattle.sets.specs.Sets.{member}
use Rattle.sets.specs.SetsLaws.{digit_bit, no_digit, says_member}
use Rattle.sets.specs.Sets.{digit}
use Rattle.schema.specs.ClassRow.{superclass_of, naming_of, mandatory_of, fixed_optional_of, open_optional_of, fixed_auxiliary_of, open_auxiliary_of}
use Rattle.schema.specs.ClassRow.{fixed_superior_of, open_superior_of}
use Rattle.schema.specs.declared.number.TableId.{TableId}
use Rattle.schema.specs.declared.number.TableId.TheVariants.{Attributes, Classes}
use Rattle.schema.specs.Numbers.{limit}
use Rattle.schema.specs.Store.{Table}
use Rattle.tables.specs.Live.{live}
use Rattle.tables.specs.Named.{lists, named_by, names}
use Rattle.tables.specs.declared.named.ClassList.{ClassList}
use Rattle.tables.specs.declared.named.ClassList.TheVariants.{Auxiliaries, Superiors}
use Rattle.rules_class.specs.Blank.{blank, lists_none, named_elsewhere, names_none}
use Rattle.rules_class.specs.Category.{other_category, wrongly_listed}
use Rattle.rules_class.specs.Live.{names_dead}
use Rattle.schema.specs.declared.number.AttributeNumber.{AttributeNumber}
use Rattle.std.specs.Prelude.{Option, Some, None}

-- ---- bytes

-- the rows of a table fill whole bytes
pub whole_bytes : (t : TableId) → limit t / 8 * 8 ≡ limit t
whole_bytes Attributes = omega arith
whole_bytes Classes = omega arith

-- a byte of a part of a row
pub in_part : (from n : ℕ) (row : List ℕ) {s : List ℕ} {at : ℕ} → s ≡ part from n row → from + n ≤ length row → at < n → at < length s
in_part from n row e h l = omega (arith, ap length e, part_length from n row h)

-- ---- bytes that are zero

first_true : (a b : Bool) → (a && b) ≡ true → a ≡ true
first_true true b e = refl
first_true false b e = e

second_true : (a b : Bool) → (a && b) ≡ true → b ≡ true
second_true true b e = e
second_true false b e = absurd (true≢false (sym e))

module _ (at i : ℕ) (l : i < 8) where
  zero_byte : (s : List ℕ) → eqb (get_or s at 0) 0 ≡ true → member s (at * 8 + i) ≡ false
  zero_byte s e = says_false (says_member s (at * 8 + i))
      (λ q. omega (arith, q, sym (digit_bit s at i l) ∙ ap (λ (x : ℕ). digit x i) ((says_eq (get_or s at 0) 0).holds e) ∙ no_digit i))

  blank_none : (a b : List ℕ) → blank a b at ≡ true → (member a (at * 8 + i) || member b (at * 8 + i)) ≡ false
  unfolding blank
  blank_none a b e = ap₂ ◌||◌ (zero_byte a (first_true (eqb (get_or a at 0) 0) (eqb (get_or b at 0) 0) e)) (zero_byte b (second_true (eqb (get_or a at 0) 0) (eqb
      (get_or b at 0) 0) e))

  lists_none_lem : (kind : ClassList) (row : List ℕ) → lists_none kind row at ≡ true → lists kind row (at * 8 + i) ≡ false
  unfolding lists_none lists
  lists_none_lem Auxiliaries row e = blank_none (fixed_auxiliary_of row) (open_auxiliary_of row) e
  lists_none_lem Superiors row e = blank_none (fixed_superior_of row) (open_superior_of row) e

  elsewhere : (x : ℕ) → not (eqb (x / 8) at) ≡ true → eqb x (at * 8 + i) ≡ false
  elsewhere x e = says_false (says_eq x (at * 8 + i)) (λ q. true≢false (sym e ∙ ap not (here q)))
    where
      here : x ≡ at * 8 + i → eqb (x / 8) at ≡ true
      here q = (says_eq (x / 8) at).passes (omega (arith, q, l))

  named_elsewhere_lem : (named : Option AttributeNumber) → named_elsewhere named at ≡ true → named_by named (at * 8 + i) ≡ false
  unfolding named_elsewhere named_by
  named_elsewhere_lem (Some n) e = elsewhere n.0 e
  named_elsewhere_lem None e = refl

  names_none_lem : (t : TableId) (row : List ℕ) → names_none t row at ≡ true → names t row (at * 8 + i) ≡ false
  unfolding names_none names lists
  names_none_lem Attributes row e =
      let a = blank (mandatory_of row) (fixed_optional_of row) at in
      let b = eqb (get_or (open_optional_of row) at 0) 0 in
      let d = named_elsewhere (naming_of row) at in
      or_more (member (mandatory_of row) (at * 8 + i)) (member (fixed_optional_of row) (at * 8 + i)) _
      (blank_none (mandatory_of row) (fixed_optional_of row) (first_true a (b && d) e))
      (ap₂ ◌||◌ (zero_byte (open_optional_of row) (first_true b d (second_true a (b && d) e)))
      (named_elsewhere_lem (naming_of row) (second_true b d (second_true a (b && d) e))))
    where
      or_more : (x y z : Bool) → (x || y) ≡ false → z ≡ false → (x || (y || z)) ≡ false
      or_more true y z p q = p
      or_more false true z p q = p
      or_more false false z p q = q
  names_none_lem Classes row e =
      let a = blank (fixed_auxiliary_of row) (open_auxiliary_of row) at in
      let b = blank (fixed_superior_of row) (open_superior_of row) at in
      let d = not (eqb (superclass_of row / 8) at) in
      ap₂ ◌||◌ (elsewhere (superclass_of row) (second_true b d (second_true a (b && d) e)))
      (ap₂ ◌||◌ (blank_none (fixed_auxiliary_of row) (open_auxiliary_of row) (first_true a (b && d) e))
      (blank_none (fixed_superior_of row) (open_superior_of row) (first_true b d (second_true a (b && d) e))))

-- no number of such a byte breaks a rule
pub none_wrong : (kind : ClassList) (t : Table) (row : List ℕ) (at i : ℕ) → i < 8 → lists_none kind row at ≡ true
    → wrongly_listed kind t row (at * 8 + i) ≡ false
unfolding wrongly_listed
none_wrong kind t row at i l e = ap (λ (x : Bool). x && other_category kind t (at * 8 + i)) (lists_none_lem at i l kind row e)

pub none_dead : (u : TableId) (t : Table) (row : List ℕ) (at i : ℕ) → i < 8 → names_none u row at ≡ true → names_dead u t row (at * 8 + i) ≡ false
unfolding names_dead
none_dead u t row at i l e = ap (λ (x : Bool). x && not (live t row (at * 8 + i))) (names_none_lem at i l u row e)
