-- A value cannot be a field's exactly where the test of it fails.
use Rattle.std.specs.Prelude.{Bool, true, false, not, ◌&&◌, ◌⊎◌, ◌↔◌, leb, ltb, eqb}
use Rattle.std.proofs.Common.{true≢false, ⊎_elim, sym, ◌∙◌, arith}
use Rattle.std.proofs.lemmas.Bool.{false≢true}
use mathlib.Core.List.{List, [], ◌∷◌}
use Rattle.std.proofs.Math.Logic.{inl, inr}
use Rattle.std.proofs.Math.Path.{◌≡◌, refl}
use Prim.Native.Nat.{ℕ, zero, suc, ◌+◌, ◌*◌, ◌/◌, ◌%◌, ◌≤◌, ◌<◌}
use Rattle.std.proofs.Math.Decide.{ℕ_discrete}
use Rattle.std.proofs.Math.ListN.{get_or, length}
use Rattle.prelude.specs.Says.{Says}
use Rattle.prelude.specs.SaysLaws.{says_or, says_eq, says_le, says_lt, says_false, says_fails}
use Rattle.prelude.specs.BelowLaws.{says_all}
use Rattle.prelude.specs.Part.{is_zero}
use Rattle.prelude.specs.BigEndian.{big_endian}
use Rattle.prelude.specs.BigEndianLaws.{two_bytes}
use Rattle.schema.specs.Numbers.{limit}
use Rattle.rows_format.specs.Encodings.{passes, accepts}
use Rattle.rows_format.specs.Columns.{possible, takes}
use Rattle.rows_format.specs.Entries.{entries, rises_below}
use Rattle.rows_format.specs.declared.column.Column.{Column}
use Rattle.rows_format.specs.declared.column.Test.TheVariants.{Any, Below, NotZero, OpenList}
use Rattle.rows_format.specs.declared.column.Encoding.{Encoding}
use Rattle.rows_format.specs.declared.column.Encoding.TheVariants.{Plain, Number, Counted, Arcs, Entries}
use Rattle.rows_format.specs.declared.column.Presence.{Presence}
use Rattle.rows_format.specs.declared.column.Presence.TheVariants.{Required, Optional, Marked, Never}
use Rattle.rows_read.specs.Unfit.{Unfit, UnfitField, HasEntry, entry_of}
use Rattle.rows_read.specs.Unfit.Unfit.{not_as_long, category_over, all_zero, no_list, not_two_bytes, number_over, too_short, too_long_lem}
use Rattle.rows_read.specs.Unfit.Unfit.{part_of_arc, too_many_arcs, no_entry, part_of_entry, entry_over, not_rising}
use Rattle.rows_read.specs.Unfit.UnfitField.{never, value}

-- ---- tests that fail

-- the test b fails exactly where P holds
record Fails (b : Bool) (P : Type 0) : Type 0 where
  why : b ≡ false → P
  fails : P → b ≡ false

fails_iff : {b : Bool} {P Q : Type 0} → Fails b P → P ↔ Q → Fails b Q
fails_iff s h = record { why = λ e. h.0 (s.why e); fails = λ q. s.fails (h.1 q) }

fails_and : {a b : Bool} {P Q : Type 0} → Fails a P → Fails b Q → Fails (a && b) (P ⊎ Q)
fails_and {a = true} s u = record { why = λ e. inr (u.why e); fails = ⊎_elim (λ p. absurd (true≢false (s.fails p))) u.fails }
fails_and {a = false} s u = record { why = λ e. inl (s.why refl); fails = λ d. refl }

fails_not : {b : Bool} {P : Type 0} → Says b P → Fails (not b) P
fails_not {b = true} s = record { why = λ e. s.holds refl; fails = λ p. refl }
fails_not {b = false} s = record { why = λ e. absurd (true≢false e); fails = λ p. absurd (false≢true (s.passes p)) }

fails_says : {b : Bool} {P : Type 0} → Says b P → Fails b (¬ P)
fails_says s = record { why = says_fails s; fails = says_false s }

fails_never : Fails true ⊥
fails_never = record { why = λ e. true≢false e; fails = λ n. absurd n }

fails_eq : (m n : ℕ) → Fails (eqb m n) (¬ (m ≡ n))
fails_eq m n = fails_says (says_eq m n)

fails_le : (m n : ℕ) → Fails (leb m n) (n < m)
fails_le m n = fails_iff (fails_says (says_le m n)) (λ h. omega arith, λ h. omega arith)

fails_lt : (m n : ℕ) → Fails (ltb m n) (n ≤ m)
fails_lt m n = fails_iff (fails_says (says_lt m n)) (λ h. omega arith, λ h. omega arith)

-- ---- entries

entry_first : (a b : ℕ) (v : List ℕ) → entry_of (a ∷ b ∷ v) 0 ≡ a * 256 + b
entry_first a b v = two_bytes 0 (a ∷ b ∷ v)

-- an entry behind the first
entry_behind : (a b : ℕ) (v : List ℕ) (i : ℕ) → entry_of (a ∷ b ∷ v) (suc i) ≡ entry_of v i
entry_behind a b v i =
    let e : suc i * 2 ≡ suc (suc (i * 2)) = omega arith in
    let f : suc (suc (i * 2)) + 1 ≡ suc (suc (i * 2 + 1)) = omega arith in
    two_bytes (suc i * 2) (a ∷ b ∷ v) ∙ rw (e, f) (sym (two_bytes (i * 2) v))

-- why entries, the first of them at least low, do not rise below a limit
data Fault (limit low : ℕ) (v : List ℕ) : Type 0 where
  low_first : HasEntry v 0 → entry_of v 0 < low → Fault limit low v
  over : (i : ℕ) → HasEntry v i → limit ≤ entry_of v i → Fault limit low v
  falling : (i : ℕ) → HasEntry v (suc i) → entry_of v (suc i) ≤ entry_of v i → Fault limit low v

module _ (limit : ℕ) where
  -- that of the first entry, or one behind it
  fault_cons : {low : ℕ} (a b : ℕ) (v : List ℕ) → (a * 256 + b < low) ⊎ ((limit ≤ a * 256 + b) ⊎ Fault limit (suc (a * 256 + b)) v)
      → Fault limit low (a ∷ b ∷ v)
  fault_cons a b v (inl l) = low_first (omega arith) (omega (arith, entry_first a b v))
  fault_cons a b v (inr (inl l)) = over 0 (omega arith) (omega (arith, entry_first a b v))
  fault_cons a b v (inr (inr (low_first h l))) = falling 0 (omega arith) (omega (arith, entry_first a b v, entry_behind a b v 0))
  fault_cons a b v (inr (inr (over i h l))) = over (suc i) (omega arith) (omega (arith, entry_behind a b v i))
  fault_cons a b v (inr (inr (falling i h l))) =
      falling (suc i) (omega arith) (omega (arith, entry_behind a b v i, entry_behind a b v (suc i)))

  fault_apart : {low : ℕ} (a b : ℕ) (v : List ℕ) → Fault limit low (a ∷ b ∷ v)
      → (a * 256 + b < low) ⊎ ((limit ≤ a * 256 + b) ⊎ Fault limit (suc (a * 256 + b)) v)
  fault_apart a b v (low_first h l) = inl (omega (arith, entry_first a b v))
  fault_apart a b v (over zero h l) = inr (inl (omega (arith, entry_first a b v)))
  fault_apart a b v (over (suc i) h l) = inr (inr (over i (omega arith) (omega (arith, entry_behind a b v i))))
  fault_apart a b v (falling zero h l) = inr (inr (low_first (omega arith) (omega (arith, entry_first a b v, entry_behind a b v 0))))
  fault_apart a b v (falling (suc i) h l) =
      inr (inr (falling i (omega arith) (omega (arith, entry_behind a b v i, entry_behind a b v (suc i)))))

  fault_none : {low : ℕ} (v : List ℕ) → length v < 2 → ¬ (Fault limit low v)
  fault_none v h (low_first g l) = omega arith
  fault_none v h (over i g l) = omega arith
  fault_none v h (falling i g l) = omega arith

  fails_rises : (low : ℕ) (v : List ℕ) → Fails (rises_below limit low (entries v)) (Fault limit low v)
  unfolding rises_below entries
  fails_rises low [] = fails_iff fails_never (λ n. absurd n, fault_none [] (omega arith))
  fails_rises low (a ∷ []) = fails_iff fails_never (λ n. absurd n, fault_none (a ∷ []) (omega arith))
  fails_rises low (a ∷ b ∷ v) =
      let x : ℕ = a * 256 + b in
      fails_iff (fails_and (fails_le low x) (fails_and (fails_lt x limit) (fails_rises (suc x) v))) (fault_cons a b v, fault_apart a b v)

-- ---- values

module _ (v : List ℕ) where
  fails_accepts : (encoding : Encoding) → Fails (accepts encoding v) (Unfit encoding v)
  unfolding accepts passes is_zero
  fails_accepts (Plain len Any) = fails_iff (fails_and (fails_eq (length v) len) fails_never) (⊎_elim not_as_long (λ n. absurd n), apart)
    where
      apart : Unfit (Plain len Any) v → ¬ (length v ≡ len) ⊎ ⊥
      apart (not_as_long d) = inl d
  fails_accepts (Plain len (Below limit)) =
      fails_iff (fails_and (fails_eq (length v) len) (fails_lt (get_or v 0 0) limit)) (⊎_elim not_as_long category_over, apart)
    where
      apart : Unfit (Plain len (Below limit)) v → ¬ (length v ≡ len) ⊎ (limit ≤ get_or v 0 0)
      apart (not_as_long d) = inl d
      apart (category_over l) = inr l
  fails_accepts (Plain len NotZero) =
      fails_iff (fails_and (fails_eq (length v) len) (fails_not (says_all (length v) (λ i l. says_eq (get_or v i 0) 0)))) (⊎_elim not_as_long all_zero, apart)
    where
      apart : Unfit (Plain len NotZero) v → ¬ (length v ≡ len) ⊎ ((i : ℕ) → i < length v → get_or v i 0 ≡ 0)
      apart (not_as_long d) = inl d
      apart (all_zero z) = inr z
  fails_accepts (Plain len OpenList) =
      fails_iff (fails_and (fails_eq (length v) len) (fails_says (says_or (says_eq x 21) (says_or (says_eq x 23) (says_eq x 25))))) (made, apart)
    where
      x : ℕ
      x = get_or v 0 0

      made : ¬ (length v ≡ len) ⊎ ¬ ((x ≡ 21) ⊎ ((x ≡ 23) ⊎ (x ≡ 25))) → Unfit (Plain len OpenList) v
      made (inl d) = not_as_long d
      made (inr n) = no_list (λ e. n (inl e)) (λ e. n (inr (inl e))) (λ e. n (inr (inr e)))

      apart : Unfit (Plain len OpenList) v → ¬ (length v ≡ len) ⊎ ¬ ((x ≡ 21) ⊎ ((x ≡ 23) ⊎ (x ≡ 25)))
      apart (not_as_long d) = inl d
      apart (no_list a b c) = inr (⊎_elim a (⊎_elim b c))
  fails_accepts (Number table) =
      fails_iff (fails_and (fails_eq (length v) 2) (fails_lt (big_endian 2 0 v) (limit table))) (⊎_elim not_two_bytes number_over, apart)
    where
      apart : Unfit (Number table) v → ¬ (length v ≡ 2) ⊎ (limit table ≤ big_endian 2 0 v)
      apart (not_two_bytes d) = inl d
      apart (number_over l) = inr l
  fails_accepts (Counted least most) = fails_iff (fails_and (fails_le least (length v)) (fails_le (length v) most)) (⊎_elim too_short too_long_lem, apart)
    where
      apart : Unfit (Counted least most) v → (length v < least) ⊎ (most < length v)
      apart (too_short l) = inl l
      apart (too_long_lem l) = inr l
  fails_accepts (Arcs most) = fails_iff (fails_and (fails_eq (length v % 4) 0) (fails_le (length v / 4) most)) (made, apart)
    where
      made : ¬ (length v % 4 ≡ 0) ⊎ (most < length v / 4) → Unfit (Arcs most) v
      made (inl d) = part_of_arc {v = v} (λ n e. d (omega arith))
      made (inr l) = let many : most * 4 < length v = omega arith in too_many_arcs many

      many : most * 4 < length v → Dec (length v % 4 ≡ 0) → ¬ (length v % 4 ≡ 0) ⊎ (most < length v / 4)
      many l (yes e) = inr (omega arith)
      many l (no d) = inl d

      apart : Unfit (Arcs most) v → ¬ (length v % 4 ≡ 0) ⊎ (most < length v / 4)
      apart (part_of_arc h) = inl (λ e. h (length v / 4) (omega arith))
      apart (too_many_arcs l) = many l (ℕ_discrete (length v % 4) 0)
  fails_accepts (Entries table) =
      fails_iff (fails_and (fails_not (says_eq (length v) 0)) (fails_and (fails_eq (length v % 2) 0) (fails_rises (limit table) 0 v))) (made, apart)
    where
      made : (length v ≡ 0) ⊎ (¬ (length v % 2 ≡ 0) ⊎ Fault (limit table) 0 v) → Unfit (Entries table) v
      made (inl e) = no_entry e
      made (inr (inl d)) = part_of_entry {v = v} (λ n e. d (omega arith))
      made (inr (inr (low_first h l))) = absurd (omega arith)
      made (inr (inr (over i h l))) = entry_over i h l
      made (inr (inr (falling i h l))) = not_rising i h l

      apart : Unfit (Entries table) v → (length v ≡ 0) ⊎ (¬ (length v % 2 ≡ 0) ⊎ Fault (limit table) 0 v)
      apart (no_entry e) = inl e
      apart (part_of_entry h) = inr (inl (λ e. h (length v / 2) (omega arith)))
      apart (entry_over i h l) = inr (inr (over i h l))
      apart (not_rising i h l) = inr (inr (falling i h l))

  fails_possible : (p : Presence) → Fails (possible p) (p ≡ Never)
  unfolding possible
  fails_possible Required = fails_iff fails_never (λ n. absurd n, λ e. let no : ◌≡◌ {A = ℕ} 0 1 = cc in omega arith)
  fails_possible Optional = fails_iff fails_never (λ n. absurd n, λ e. let no : ◌≡◌ {A = ℕ} 0 1 = cc in omega arith)
  fails_possible Marked = fails_iff fails_never (λ n. absurd n, λ e. let no : ◌≡◌ {A = ℕ} 0 1 = cc in omega arith)
  fails_possible Never = record { why = λ e. refl; fails = λ e. refl }

  fails_takes : (r : Column) → Fails (takes r v) (UnfitField r v)
  unfolding takes
  fails_takes r = fails_iff (fails_and (fails_possible r.presence) (fails_accepts r.encoding)) (⊎_elim never value, apart)
    where
      apart : UnfitField r v → (r.presence ≡ Never) ⊎ Unfit r.encoding v
      apart (never e) = inl e
      apart (value u) = inr u

  pub unfit : (encoding : Encoding) → (accepts encoding v ≡ false) ↔ Unfit encoding v
  unfit encoding = let f = fails_accepts encoding in (f.why, f.fails)

  pub unfit_field : (r : Column) → (takes r v ≡ false) ↔ UnfitField r v
  unfit_field r = let f = fails_takes r in (f.why, f.fails)
