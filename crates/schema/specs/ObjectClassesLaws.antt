-- Laws of the table of oMObjectClass: it is whole, what its tests say, and that a first value is a right one.
use Rattle.std.specs.Prelude.{Bool, true, false, List, [], ◌∷◌, ◌⊎◌, ◌≡◌, refl, ℕ, ◌+◌, ◌*◌, ◌≤◌, ◌<◌, leb, eqb, length, get_or}
use Rattle.std.proofs.Common.{inl, inr, ⊎_elim, ap, sym, arith, leb-true}
use Rattle.prelude.specs.Says.{Says}
use Rattle.prelude.specs.SaysLaws.{says_and, says_eq, true_or_false}
use Rattle.prelude.specs.Part.{row_at, part, padded, zeros, same_bytes}
use Rattle.prelude.specs.PartLaws.{says_same_bytes, part_length, part_short}
use Rattle.prelude.specs.Below.{any_below, all_below}
use Rattle.prelude.specs.BelowLaws.{says_any, all_each, any_here, first_some, first_absent}
use Rattle.schema.specs.Layout.{object_class_limit}
use Rattle.schema.specs.ObjectClasses.{entry_width, entry_count, object_classes, entry_syntax, entry_value, first_entry, first_object_class}
use Rattle.schema.specs.ObjectClasses.{object_class_fits, ObjectClassFits, Entries, HasObjectClass}

-- ---- the table is whole

-- computed over it
all_short : all_below entry_count (λ i. leb (get_or (row_at 0 entry_width object_classes i) 1 0) object_class_limit) ≡ true
unfolding all_below object_classes part padded zeros
all_short = refl

long : length object_classes ≡ entry_width * entry_count
unfolding object_classes padded zeros
long = refl

pub entries_whole : Entries object_classes
entries_whole =
    record {
      room = omega (arith, long);
      short = λ i l. leb-true (get_or (row_at 0 entry_width object_classes i) 1 0) object_class_limit
          (all_each (λ k. leb (get_or (row_at 0 entry_width object_classes k) 1 0) object_class_limit) entry_count all_short i l);
    }

pub entry_length : (table : List ℕ) (i : ℕ) → Entries table → i < entry_count → length (row_at 0 entry_width table i) ≡ entry_width
entry_length table i h l = part_length (0 + entry_width * i) entry_width table (omega (arith, h.room))

-- ---- what a row may have

pub says_object_class_fits : (syntax : ℕ) (value : List ℕ) → Says (object_class_fits syntax value) (ObjectClassFits syntax value)
unfolding object_class_fits
says_object_class_fits syntax value =
    says_any entry_count (λ i l. says_and (says_eq (entry_syntax object_classes i) syntax) (says_same_bytes value (entry_value object_classes i)))

-- the syntaxes that have one
pub has_object_class : {syntax : ℕ} → (syntax ≡ 1) ⊎ ((syntax ≡ 7) ⊎ ((syntax ≡ 13) ⊎ (syntax ≡ 14))) → HasObjectClass syntax
unfolding object_classes part padded zeros
has_object_class =
    ⊎_elim (λ e. record { at = 0; below = omega arith; is = sym e })
    (⊎_elim (λ e. record { at = 1; below = omega arith; is = sym e })
    (⊎_elim (λ e. record { at = 3; below = omega arith; is = sym e }) (λ e. record { at = 4; below = omega arith; is = sym e })))

-- ---- what is stored where it has none

-- behind the last entry stands nothing
pub no_value : entry_value object_classes entry_count ≡ []
unfolding object_classes part padded zeros
no_value = refl

-- the cell of each value, as it stands in the table
all_cells : all_below entry_count (λ i. same_bytes (part 1 (object_class_limit + 1) (row_at 0 entry_width object_classes i))
    (length (entry_value object_classes i) ∷ padded object_class_limit (entry_value object_classes i))) ≡ true
unfolding all_below object_classes part padded zeros same_bytes
all_cells = refl

pub entry_cell : (i : ℕ) → i < entry_count → part 1 (object_class_limit + 1) (row_at 0 entry_width object_classes i)
    ≡ length (entry_value object_classes i) ∷ padded object_class_limit (entry_value object_classes i)
entry_cell i l = (says_same_bytes _ _).holds
    (all_each (λ k. same_bytes (part 1 (object_class_limit + 1) (row_at 0 entry_width object_classes k))
    (length (entry_value object_classes k) ∷ padded object_class_limit (entry_value object_classes k))) entry_count all_cells i l)

-- a syntax has a first entry, or the count is found
pub first_entry_is : (table : List ℕ) (syntax : ℕ) → (first_entry table syntax < entry_count) ⊎ (first_entry table syntax ≡ entry_count)
first_entry_is table syntax = go (true_or_false (any_below entry_count has))
  where
    has : ℕ → Bool
    has i = eqb (entry_syntax table i) syntax

    go : (any_below entry_count has ≡ true) ⊎ (any_below entry_count has ≡ false)
        → (first_entry table syntax < entry_count) ⊎ (first_entry table syntax ≡ entry_count)
    go (inl q) = inl (first_some has entry_count q).0
    go (inr q) = inr (first_absent has entry_count q)

pub first_short : (syntax : ℕ) → length (first_object_class syntax) ≤ object_class_limit
unfolding first_object_class
first_short syntax = ⊎_elim some none (first_entry_is object_classes syntax)
  where
    i : ℕ
    i = first_entry object_classes syntax

    some : i < entry_count → length (entry_value object_classes i) ≤ object_class_limit
    some l = omega (arith, (part_short 2 (get_or (row_at 0 entry_width object_classes i) 1 0) (row_at 0 entry_width object_classes i)).0, entries_whole.short i l)

    none : i ≡ entry_count → length (entry_value object_classes i) ≤ object_class_limit
    none e = omega (arith, ap (λ (k : ℕ). length (entry_value object_classes k)) e, ap length no_value)

-- a syntax that has values: its first is a right one
pub first_fits : (syntax : ℕ) → HasObjectClass syntax → ObjectClassFits syntax (first_object_class syntax)
unfolding first_object_class
first_fits syntax s =
    let has : any_below entry_count (λ i. eqb (entry_syntax object_classes i) syntax)
    ≡ true = any_here (λ i. eqb (entry_syntax object_classes i) syntax) s.at entry_count s.below
    ((says_eq (entry_syntax object_classes s.at) syntax).passes s.is) in
    let f = first_some (λ i. eqb (entry_syntax object_classes i) syntax) entry_count has in
    record {
      at = first_entry object_classes syntax;
      below = f.0;
      is =
          ((says_eq (entry_syntax object_classes (first_entry object_classes syntax)) syntax).holds f.1, refl);
    }
