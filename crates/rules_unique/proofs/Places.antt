-- All rows in one pass: a row whose mark was not met before has no rival among the rows before it.
use mathlib.Core.Bool.{Bool, true, false, ◌&&◌, ◌||◌, true≢false}
use mathlib.Core.List.{List}
use mathlib.Core.Logic.{◌⊎◌, inl, inr, ⊎_elim}
use mathlib.Core.Path.{◌≡◌, refl, sym, ap, ap₂, subst, ◌∙◌}
use Prim.Native.Nat.{ℕ, zero, suc, ◌+◌, ◌*◌, ◌%◌, ◌<◌, ◌≤◌}
use native.Mathlib.Decide.{ℕ_discrete, dec_lt}
use native.Mathlib.Nat.{mod-lt, zero-lt-suc}
use native.Mathlib.Numerals.{add-one}
use native.Mathlib.Omega.{arith}
use lib.Bits.{bit_and, and_mask}
use lib.ListN.{length, get_or}
use Rattle.prelude.specs.Below.{any_below}
use Rattle.prelude.specs.BelowLaws.{any_false, any_here, last_or_less}
use Rattle.prelude.specs.SaysLaws.{choose, says_eq, says_false, true_or_false}
use Rattle.sets.specs.Sets.{member, with_member}
use Rattle.sets.specs.SetsLaws.{bit_with, bit_with_other, says_member}
use Rattle.schema.specs.declared.number.TableId.{TableId}
use Rattle.schema.specs.declared.number.TableId.TheVariants.{Attributes, Classes}
use Rattle.schema.specs.declared.number.RowId.{RowId}
use Rattle.schema.specs.Numbers.{row_id, table_of, number_of, place_id}
use Rattle.schema.specs.NumbersLaws.{id_table, id_number}
use Rattle.schema.specs.Row.{name_of, identifier_of, guid_of}
use Rattle.schema.specs.AttributeRow.{mapi_of, link_of}
use Rattle.schema.specs.PlaceLaws.{place_back, place_high, place_low, place_row_lem}
use Rattle.schema.specs.Store.{Schema, place_of, place_row, table}
use Rattle.rules_names.specs.Name.{folded, between}
use Rattle.rules_unique.specs.declared.Key.{Key}
use Rattle.rules_unique.specs.declared.Key.TheVariants.{Name, Identifier, Guid, Mapi, Link}
use Rattle.rules_unique.specs.Unique.{every_row, has_key, taken, SameKey, Rival}
use Rattle.rules_unique.proofs.UniqueLaws.{says_taken, clash_turned}
use Rattle.rules_unique.specs.Marks.{absent, any_taken, caseless, key_mark, mark_count, mark_of, marks_width, met, place_count, whole}

-- ---- marks

fold_low : (z : ℕ) → folded z % 32 ≡ z % 32
unfolding folded
fold_low z = choose (λ (y : ℕ). y % 32 ≡ z % 32) (between 65 90 z) (λ e. omega arith) (λ e. refl)

-- a letter and the other of its case have the lowest five digits in common
case_same : (x y : ℕ) → folded x ≡ folded y → bit_and x caseless ≡ bit_and y caseless
case_same x y e = low x ∙ ap (λ (z : ℕ). z % 32) e ∙ sym (low y)
  where
    low : (z : ℕ) → bit_and z caseless ≡ folded z % 32
    low z = and_mask z 5 ∙ sym (fold_low z)

mark_folded : (n : ℕ) (s t : List ℕ) → ((i : ℕ) → i < n → folded (get_or s i 0) ≡ folded (get_or t i 0)) → mark_of caseless n s ≡ mark_of caseless n t
unfolding mark_of
mark_folded zero s t h = refl
mark_folded (suc n) s t h =
    ap₂ (λ (a b : ℕ). (a * 31 + b) % mark_count) (mark_folded n s t (λ i l. h i (omega arith))) (case_same (get_or s n 0) (get_or t n 0) (h n (omega arith)))

-- rows with the same key have the same mark, and a value
mark_same : (key : Key) (a b : List ℕ) → SameKey key a b → key_mark key a ≡ key_mark key b
unfolding key_mark
mark_same Name a b s = mark_folded (length (name_of a)) (name_of a) (name_of b) s.bytes ∙ ap (λ (n : ℕ). mark_of caseless n (name_of b)) s.lengths
mark_same Identifier a b s = ap (λ (x : List ℕ). mark_of whole (length x) x) s
mark_same Guid a b s = ap (λ (x : List ℕ). mark_of whole (length x) x) s
mark_same Mapi a b s = ap (λ (x : ℕ). x % mark_count) s.1
mark_same Link a b s = ap (λ (x : ℕ). x % mark_count) s.1

present_same : (key : Key) (a b : List ℕ) → SameKey key a b → absent key a ≡ false
unfolding absent
present_same Name a b s = refl
present_same Identifier a b s = refl
present_same Guid a b s = refl
present_same Mapi a b s = says_false (says_eq (mapi_of a) 0) s.0
present_same Link a b s = says_false (says_eq (link_of a) 0) s.0

mark_lt : (mask n : ℕ) (s : List ℕ) → mark_of mask n s < mark_count
unfolding mark_of
mark_lt mask zero s = omega arith
mark_lt mask (suc n) s = mod-lt (mark_of mask n s * 31 + bit_and (get_or s n 0) mask) (zero-lt-suc 16383)

key_mark_lt : (key : Key) (row : List ℕ) → key_mark key row < mark_count
unfolding key_mark
key_mark_lt Name row = mark_lt caseless (length (name_of row)) (name_of row)
key_mark_lt Identifier row = mark_lt whole (length (identifier_of row)) (identifier_of row)
key_mark_lt Guid row = mark_lt whole (length (guid_of row)) (guid_of row)
key_mark_lt Mapi row = mod-lt (mapi_of row) (zero-lt-suc 16383)
key_mark_lt Link row = mod-lt (link_of row) (zero-lt-suc 16383)

-- ---- places

module _ (key : Key) (m : Schema) where
  abbrev first : ℕ
  first = m.attributes.count

  abbrev pub row_of : ℕ → List ℕ
  row_of p = place_row m p

  place_below : (t : TableId) (k : ℕ) → has_key key t ≡ true → k < (table t m).count → place_of m t k < place_count key m
  unfolding place_count
  place_below Attributes k h l = omega (arith, l)
  place_below Classes k h l = rw h (omega (arith, l))

  -- there are no more places than rows
  pub places_few : place_count key m ≤ first + m.classes.count
  unfolding place_count
  places_few = choose (λ (x : ℕ). first + x ≤ first + m.classes.count) (has_key key Classes) (λ e. omega arith) (λ e. omega arith)

  -- what stands at a place
  record Placed (p : ℕ) (i : RowId) : Type 0 where
    there : number_of i < (table (table_of i) m).count
    has : has_key key (table_of i) ≡ true
    back : place_of m (table_of i) (number_of i) ≡ p

  placed : (p : ℕ) → p < place_count key m → Placed p (place_id first p)
  unfolding place_count has_key
  placed p l = go (dec_lt p first)
    where
      classes : ¬ (p < first) → (has_key key Classes ≡ true) ⊎ (has_key key Classes ≡ false) → Placed p (place_id first p)
      classes h (inl q) =
          let low : p < first + m.classes.count = rw q at l in
          subst (Placed p) (sym (place_high first p (omega (arith, h)))) (record { there = omega (arith, low, h); has = q; back = omega (arith, h) })
      classes h (inr q) = let low : p < first + 0 = rw q at l in absurd (h (omega (arith, low)))

      go : Dec (p < first) → Placed p (place_id first p)
      go (yes h) = subst (Placed p) (sym (place_low first p h)) (record { there = h; has = refl; back = refl })
      go (no h) = classes h (true_or_false (has_key key Classes))

  -- ---- the pass

  -- the marks of the first p rows are met
  abbrev pub Marked : ℕ → List ℕ → Type 0
  Marked p marks = (j : ℕ) → j < p → member marks (key_mark key (row_of j)) ≡ true

  -- no two of them have the same key
  abbrev pub Apart : ℕ → Type 0
  Apart p = (i j : ℕ) → i < j → j < p → ¬ SameKey key (row_of j) (row_of i)

  marked_more : (p : ℕ) (marks r : List ℕ) → length marks ≡ marks_width → r ≡ with_member (key_mark key (row_of p)) marks → Marked p marks → Marked (p + 1) r
  marked_more p marks r l q h j b = rw q (go (ℕ_discrete (key_mark key (row_of j)) (key_mark key (row_of p))))
    where
      mark : ℕ
      mark = key_mark key (row_of p)

      go : Dec (key_mark key (row_of j) ≡ mark) → member (with_member mark marks) (key_mark key (row_of j)) ≡ true
      go (yes e) = rw e ((says_member (with_member mark marks) mark).passes (bit_with marks mark (omega (arith, key_mark_lt key (row_of p), l))))
      go (no d) = (says_member (with_member mark marks) (key_mark key (row_of j))).passes
          (bit_with_other marks mark (key_mark key (row_of j)) d
          ∙ (says_member marks (key_mark key (row_of j))).holds (h j (⊎_elim (λ k. k) (λ e. absurd (d (ap (λ (i : ℕ). key_mark key (row_of i)) e))) (last_or_less
          (omega (arith, b))))))

  -- row p, whose mark was not met or which has no rival
  apart_more : (p : ℕ) (marks : List ℕ) → p < place_count key m → Marked p marks
      → (met key (row_of p) (key_mark key (row_of p)) marks && taken every_row key m (table_of (place_id first p)) (number_of (place_id first p))) ≡ false
      → Apart p → Apart (p + 1)
  unfolding met
  apart_more p marks below h calm a i j l b s = ⊎_elim (λ k. a i j l k s) here (last_or_less (omega (arith, b)))
    where
      here : j ≡ p → ⊥
      here e =
          let s' : SameKey key (row_of p) (row_of i) = rw e at s in
          let low : i < p = omega (arith, l, e) in
          let x = placed p below in
          let y = placed i (omega (arith, low, below)) in
          let mark : member marks (key_mark key (row_of p)) ≡ true = ap (member marks) (mark_same key (row_of p) (row_of i) s') ∙ h i low in
          let rival : Rival every_row key m (table_of (place_id first p)) (number_of (place_id first p)) = record {
            has = x.has;
            of = table_of (place_id first i);
            its = y.has;
            at = number_of (place_id first i);
            below = y.there;
            other = λ q. omega (arith, low, sym x.back ∙ ap₂ (place_of m) q.0 q.1 ∙ y.back);
            clash = record { first = refl; second = refl; same = s' };
          } in
          true≢false
          (sym (rw (present_same key (row_of p) (row_of i) s', mark)
          ((says_taken every_row key m (table_of (place_id first p)) (number_of (place_id first p))).passes rival)) ∙ calm)

  pub none_taken : Apart (place_count key m) → any_taken key m ≡ false
  unfolding any_taken
  none_taken a =
      ap₂ ◌||◌ (any_false (taken every_row key m Attributes) first (calm Attributes)) (any_false (taken every_row key m Classes) m.classes.count
      (calm Classes))
    where
      calm : (t : TableId) (k : ℕ) → k < (table t m).count → taken every_row key m t k ≡ false
      calm t k l = says_false (says_taken every_row key m t k) rival
        where
          rival : Rival every_row key m t k → ⊥
          rival r = go (dec_lt p q)
            where
              p : ℕ
              p = place_of m t k

              q : ℕ
              q = place_of m r.of r.at

              same : SameKey key (row_of p) (row_of q)
              same = rw (place_row_lem m t k l, place_row_lem m r.of r.at r.below) r.clash.same

              turned : SameKey key (row_of q) (row_of p)
              turned = rw (place_row_lem m t k l, place_row_lem m r.of r.at r.below) (clash_turned {counts = every_row} {key = key} r.clash).same

              apart : ¬ (p ≡ q)
              apart e = r.other
                  (sym (id_table t k) ∙ ap table_of ids ∙ id_table r.of r.at, sym (id_number t k) ∙ ap number_of ids ∙ id_number r.of r.at)
                where
                  ids : row_id t k ≡ row_id r.of r.at
                  ids = sym (place_back m t k l) ∙ ap (place_id first) e ∙ place_back m r.of r.at r.below

              go : Dec (p < q) → ⊥
              go (yes h) = a p q h (place_below r.of r.at r.its r.below) turned
              go (no h) = a q p (omega (arith, h, apart)) (place_below t k r.has l) same

  one_taken : (p : ℕ) (marks : List ℕ) → p < place_count key m
      → (met key (row_of p) (key_mark key (row_of p)) marks && taken every_row key m (table_of (place_id first p)) (number_of (place_id first p))) ≡ true
      → any_taken key m ≡ true
  unfolding any_taken
  one_taken p marks l e = go (table_of (place_id first p)) (number_of (place_id first p)) (placed p l).there
      (second (met key (row_of p) (key_mark key (row_of p)) marks) (taken every_row key m (table_of (place_id first p)) (number_of (place_id first p))) e)
    where
      second : (a b : Bool) → (a && b) ≡ true → b ≡ true
      second true b q = q
      second false b q = absurd (true≢false (sym q))

      either : (a b : Bool) → b ≡ true → (a || b) ≡ true
      either true b q = refl
      either false b q = q

      go : (t : TableId) (k : ℕ) → k < (table t m).count → taken every_row key m t k ≡ true
          → (any_below first (taken every_row key m Attributes) || any_below m.classes.count (taken every_row key m Classes)) ≡ true
      go Attributes k h q =
          ap (λ (x : Bool). x || any_below m.classes.count (taken every_row key m Classes)) (any_here (taken every_row key m Attributes) k first h q)
      go Classes k h q = either (any_below first (taken every_row key m Attributes)) (any_below m.classes.count (taken every_row key m Classes))
          (any_here (taken every_row key m Classes) k m.classes.count h q)

  -- ---- a row that is asked for by its place, and its mark

  abbrev row_at : RowId → List ℕ
  row_at i = (table (table_of i) m).row (number_of i)

  module _ (p : ℕ) {i : RowId} (is : i ≡ place_id first p) (l : p < place_count key m) where
    pub id_there : number_of i < (table (table_of i) m).count
    id_there = subst (λ (j : RowId). number_of j < (table (table_of j) m).count) (sym is) (placed p l).there

    module _ (marks : List ℕ) {mark : ℕ} (its : mark ≡ key_mark key (row_at i)) where
      -- its mark was met, and it has a rival
      abbrev Repeated : Bool → Type 0
      Repeated b = (met key (row_at i) mark marks && taken every_row key m (table_of i) (number_of i)) ≡ b

      placed_so : (b : Bool) → Repeated b → (met key (row_of p) (key_mark key (row_of p)) marks
          && taken every_row key m (table_of (place_id first p)) (number_of (place_id first p))) ≡ b
      placed_so b e =
          subst (λ (j : RowId). (met key (row_at j) (key_mark key (row_at j)) marks && taken every_row key m (table_of j) (number_of j)) ≡ b) is
          (ap (λ (x : ℕ). met key (row_at i) x marks && taken every_row key m (table_of i) (number_of i)) (sym its) ∙ e)

      pub id_taken : Repeated true → any_taken key m ≡ true
      id_taken e = one_taken p marks l (placed_so true e)

      pub id_apart : Repeated false → Marked p marks → Apart p → Apart (p + 1)
      id_apart e h = apart_more p marks l h (placed_so false e)

      pub id_marked : {r : List ℕ} → length marks ≡ marks_width → r ≡ with_member mark marks → Marked p marks → Marked (p + 1) r
      id_marked {r} w e = marked_more p marks r w
          (e ∙ ap (λ (x : ℕ). with_member x marks) its ∙ ap (λ (j : RowId). with_member (key_mark key (row_at j)) marks) is)

-- the mark of one byte more
pub mark_more : (mask : ℕ) (s : List ℕ) (i mark b : ℕ) → mark ≡ mark_of mask i s → b ≡ get_or s i 0
    → (mark * 31 + bit_and b mask) % mark_count ≡ mark_of mask (i + 1) s
unfolding mark_of
mark_more mask s i mark b e q =
    ap₂ (λ (x y : ℕ). (x * 31 + bit_and y mask) % mark_count) e q ∙ ap (λ (n : ℕ). mark_of mask n s) (sym (add-one i))

pub mark_below : (mask : ℕ) (s : List ℕ) (i mark : ℕ) → mark ≡ mark_of mask i s → mark < mark_count
mark_below mask s i mark e = rw e (mark_lt mask i s)
