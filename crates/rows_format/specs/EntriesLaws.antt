-- Laws of set entries: numbers and bytes, what the tests say, and that a set is made of its entries and gives them back.
use Rattle.std.specs.Prelude.{◌≡◌, refl, Bool, true, false, ◌||◌, ◌⊎◌, ◌↔◌, ℕ, zero, suc, ◌+◌, ◌*◌, ◌/◌, ◌%◌, ◌≤◌, ◌<◌, length, get_or, drop}
use Rattle.std.proofs.Common.{sym, ap, ap₂, ◌∙◌, inl, inr, ⊎_elim, arith, add-one, length-append, drop_of_length-le, drop-cons}
use Rattle.std.proofs.lemmas.Bool.{false≢true}
use mathlib.Core.List.Memᴰ
use mathlib.Core.List.{List, [], ◌∷◌, Memᴰ}
use Rattle.std.proofs.Math.Decide.{dec_lt}
use Rattle.prelude.specs.Says.{Says}
use Rattle.prelude.specs.SaysLaws.{says_and, says_or, says_iff, says_eq, says_le, says_lt, says_true, says_false, says_fails, says_split, true_or_false}
use Rattle.prelude.specs.BigEndian.{big_endian, big_endian_bytes}
use Rattle.prelude.specs.BigEndianLaws.{two_bytes, bytes_length}
use Rattle.sets.specs.Sets.{flag, bit, member, set_of, list_below, from, members_from, member_count, is_empty, Rises, none, more}
use Rattle.sets.specs.SetsLaws.{set_length, bit_set, says_member, member_true, is_set, bit_past, bit_cases, says_empty}
use Rattle.sets.specs.ListLaws.{list_has, list_rises, list_count, list_none, list_next, from_before, from_past}
use Rattle.sets.specs.CountLaws.{count_cong, count_le}
use Rattle.prelude.specs.Unlike.{among}
use Rattle.rows_format.specs.Entries.{entries, entry_bytes, rises_below}

-- ---- numbers and bytes

-- the entries from a place on
pub entries_cons : (v : List ℕ) (i : ℕ) → i + 2 ≤ length v → entries (drop i v) ≡ big_endian 2 i v ∷ entries (drop (i + 2) v)
unfolding entries
entries_cons v i h =
    let e : i + 2 ≡ suc (suc i) = omega arith in
    let n : i + 1 ≡ suc i = add-one i in
    rw (e, drop-cons v i 0 (omega arith), drop-cons v (suc i) 0 (omega arith), two_bytes i v, n)

pub entries_none : (v : List ℕ) (i : ℕ) → length v ≤ i → entries (drop i v) ≡ []
unfolding entries
entries_none v i h = rw (drop_of_length-le v h)

-- two bytes an entry
pub entry_length : (xs : List ℕ) → length (entry_bytes xs) ≡ length xs * 2
unfolding entry_bytes
entry_length [] = refl
entry_length (x ∷ xs) = length-append (big_endian_bytes 2 x) (entry_bytes xs) ∙ ap₂ (λ (a b : ℕ). a + b) (bytes_length 2 x) (entry_length xs) ∙ omega arith

-- the numbers of the bytes of numbers, and the bytes of the numbers of bytes
pub entries_of_bytes : (xs : List ℕ) → ((k : ℕ) → Memᴰ k xs → k < 65536) → entries (entry_bytes xs) ≡ xs
unfolding entries entry_bytes big_endian_bytes
entries_of_bytes [] h = refl
entries_of_bytes (x ∷ xs) h =
    let l : x < 65536 = h x (Memᴰ.head refl) in
    let e : x / 256 % 256 * 256 + x % 256 ≡ x = omega arith in
    ap₂ (λ (a : ℕ) (b : List ℕ). a ∷ b) e (entries_of_bytes xs (λ k m. h k (Memᴰ.tail m)))

pub bytes_of_entries : (v : List ℕ) → ((i : ℕ) → get_or v i 0 < 256) → length v % 2 ≡ 0 → entry_bytes (entries v) ≡ v
unfolding entries entry_bytes big_endian_bytes
bytes_of_entries [] b h = refl
bytes_of_entries (x ∷ []) b h = absurd (omega arith)
bytes_of_entries (x ∷ y ∷ v) b h =
    let p : x < 256 = b 0 in
    let q : y < 256 = b 1 in
    let e : (x * 256 + y) / 256 % 256 ≡ x = omega arith in
    let f : (x * 256 + y) % 256 ≡ y = omega arith in
    let rest : entry_bytes (entries v) ≡ v = bytes_of_entries v (λ i. b (suc (suc i))) (omega arith) in
    rw (e, f, rest)

-- the bytes of numbers are bytes
pub entry_bytes_lem : (xs : List ℕ) (i : ℕ) → get_or (entry_bytes xs) i 0 < 256
unfolding entry_bytes big_endian_bytes
entry_bytes_lem [] i = omega arith
entry_bytes_lem (x ∷ xs) zero = omega arith
entry_bytes_lem (x ∷ xs) (suc zero) = omega arith
entry_bytes_lem (x ∷ xs) (suc (suc i)) = entry_bytes_lem xs i

-- ---- what the tests say

pub says_among : (xs : List ℕ) (k : ℕ) → Says (among xs k) (Memᴰ k xs)
unfolding among
says_among [] k = record { holds = λ e. absurd (false≢true e); passes = λ m. absurd (Memᴰ.not-nil m) }
says_among (x ∷ xs) k =
    says_iff (says_or (says_eq k x) (says_among xs k))
    (⊎_elim (λ e. Memᴰ.head e) (λ m. Memᴰ.tail m), λ m. Memᴰ.cases_cons m)

-- the list rises, and each number of it is below the limit
abbrev pub RisesBelow : ℕ → ℕ → List ℕ → Type 0
RisesBelow limit low xs = Rises low xs × ((k : ℕ) → Memᴰ k xs → k < limit)

pub says_rises : (limit low : ℕ) (xs : List ℕ) → Says (rises_below limit low xs) (RisesBelow limit low xs)
unfolding rises_below
says_rises limit low [] = record { holds = λ e. (none, λ k m. absurd (Memᴰ.not-nil m)); passes = λ h. refl }
says_rises limit low (x ∷ xs) = says_iff (says_and (says_le low x) (says_and (says_lt x limit) (says_rises limit (suc x) xs))) (down, up)
  where
    down : (low ≤ x) × ((x < limit) × RisesBelow limit (suc x) xs) → RisesBelow limit low (x ∷ xs)
    down h = (more h.0 h.1.1.0, λ k m. ⊎_elim (λ e. omega (arith, h.1.0)) (λ w. h.1.1.1 k w) (Memᴰ.cases_cons m))

    apart : Rises low (x ∷ xs) → (low ≤ x) × Rises (suc x) xs
    apart (more l r) = (l, r)

    up : RisesBelow limit low (x ∷ xs) → (low ≤ x) × ((x < limit) × RisesBelow limit (suc x) xs)
    up h = ((apart h.0).0, (h.1 x (Memᴰ.head refl), ((apart h.0).1, λ k m. h.1 k (Memᴰ.tail m))))

-- ---- sets

rises_above : {low : ℕ} {xs : List ℕ} → Rises low xs → (k : ℕ) → Memᴰ k xs → low ≤ k
rises_above none k m = absurd (Memᴰ.not-nil m)
rises_above (more l r) k m = ⊎_elim (λ e. omega arith) (λ w. omega (arith, rises_above r k w)) (Memᴰ.cases_cons m)

-- a rising list is the list of the numbers that are in it
list_among : (limit : ℕ) {low : ℕ} {xs : List ℕ} (p : ℕ → Bool) → Rises low xs → ((k : ℕ) → Memᴰ k xs → k < limit)
    → ((k : ℕ) → k < limit → low ≤ k → p k ≡ among xs k) → list_below limit (from low p) ≡ xs
unfolding among
list_among limit {low} p none b h = list_none limit (from low p) (λ k l. each k l (dec_lt k low))
  where
    each : (k : ℕ) → k < limit → Dec (k < low) → from low p k ≡ false
    each k l (yes g) = from_before low p k g
    each k l (no g) = let le : low ≤ k = omega arith in from_past low p k le ∙ h k l le
list_among limit {low} p (more {x = x} {xs = xs} l r) b h =
    let below : x < limit = b x (Memᴰ.head refl) in
    list_next limit low x p below l (h x below l ∙ says_true (says_among (x ∷ xs) x) (Memᴰ.head refl)) (λ k g. before k g (dec_lt k low))
    ∙ ap (λ (t : List ℕ). x ∷ t) (rw (add-one x) (list_among limit p r (λ k m. b k (Memᴰ.tail m)) rest))
  where
    before : (k : ℕ) → k < x → Dec (k < low) → from low p k ≡ false
    before k g (yes a) = from_before low p k a
    before k g (no a) =
        let le : low ≤ k = omega arith in
        let in-range : k < limit = omega (arith, b x (Memᴰ.head refl)) in
        from_past low p k le ∙ h k in-range le
        ∙ says_false (says_among (x ∷ xs) k) (λ m. ⊎_elim (λ e. omega arith) (λ w. omega (arith, rises_above r k w)) (Memᴰ.cases_cons m))

    rest : (k : ℕ) → k < limit → suc x ≤ k → p k ≡ among xs k
    rest k g a = h k g (omega arith) ∙ ap (λ (t : Bool). t || among xs k) (says_false (says_eq k x) (λ e. omega arith))

pub members_of_set : (n : ℕ) (xs : List ℕ) → RisesBelow (n * 8) 0 xs → members_from 0 (set_of n (among xs)) ≡ xs
unfolding members_from
members_of_set n xs r =
    rw (set_length n (among xs)) (list_among (n * 8) (member (set_of n (among xs))) r.0 r.1 (λ k l g. in_set k l (true_or_false (among xs k))))
  where
    in_set : (k : ℕ) → k < n * 8 → (among xs k ≡ true) ⊎ (among xs k ≡ false) → member (set_of n (among xs)) k ≡ among xs k
    in_set k l (inl q) = says_true (says_member (set_of n (among xs)) k) (bit_set n (among xs) k l ∙ ap flag q) ∙ sym q
    in_set k l (inr q) =
        let z : bit (set_of n (among xs)) k ≡ 0 = bit_set n (among xs) k l ∙ ap flag q in
        says_false (says_member (set_of n (among xs)) k) (λ o. omega arith) ∙ sym q

-- the members of a set are its members
members_have : (cell : List ℕ) (k : ℕ) → Memᴰ k (members_from 0 cell) ↔ (bit cell k ≡ 1)
unfolding members_from
members_have cell k = (
  λ m. member_true cell k (sym (from_past 0 (member cell) k (omega arith)) ∙ ((list_has n p k).0 m).1),
  λ o. (list_has n p k).1
      (inside o (dec_lt k n), from_past 0 (member cell) k (omega arith) ∙ says_true (says_member cell k) o),
)
  where
    n : ℕ
    n = length cell * 8

    p : ℕ → Bool
    p = from 0 (member cell)

    inside : bit cell k ≡ 1 → Dec (k < n) → k < n
    inside o (yes l) = l
    inside o (no g) = absurd (omega (arith, bit_past cell k (omega arith)))

-- a set is that of its members
pub set_of_members : (n : ℕ) (cell : List ℕ) → length cell ≡ n → ((i : ℕ) → get_or cell i 0 < 256) → set_of n (among (members_from 0 cell)) ≡ cell
set_of_members n cell l b = sym (is_set cell n (among xs) l b (λ k g. each k (says_split (says_among xs k))))
  where
    xs : List ℕ
    xs = members_from 0 cell

    each : (k : ℕ) → ((among xs k ≡ true) × Memᴰ k xs) ⊎ ((among xs k ≡ false) × ¬ (Memᴰ k xs)) → bit cell k ≡ flag (among xs k)
    each k (inl q) = (members_have cell k).0 q.1 ∙ ap flag (sym q.0)
    each k (inr q) = ⊎_elim (λ z. z ∙ ap flag (sym q.0)) (λ o. absurd (q.1 ((members_have cell k).1 o))) (bit_cases cell k)

pub members_rise : (n : ℕ) (cell : List ℕ) → length cell ≡ n → RisesBelow (n * 8) 0 (members_from 0 cell)
unfolding members_from
members_rise n cell l =
    (list_rises (length cell * 8) (from 0 (member cell)), λ k m. omega (arith, ((list_has (length cell * 8) (from 0 (member cell)) k).0 m).0))

-- how many members
pub members_count : (cell : List ℕ) → length (members_from 0 cell) ≡ member_count cell
unfolding members_from member_count
members_count cell = list_count (length cell * 8) (from 0 (member cell))
    ∙ count_cong (length cell * 8) (from 0 (member cell)) (member cell) (λ k l. from_past 0 (member cell) k (omega arith))

pub members_few : (cell : List ℕ) → length (members_from 0 cell) ≤ length cell * 8
unfolding member_count
members_few cell = omega (arith, members_count cell, count_le (length cell * 8) (member cell))

-- some entry, some member; and the other way round
pub some_member : (n : ℕ) (xs : List ℕ) → RisesBelow (n * 8) 0 xs → ¬ (xs ≡ []) → is_empty (set_of n (among xs)) ≡ false
some_member n [] r d = absurd (d refl)
some_member n (x ∷ xs) r d =
    let s : List ℕ = set_of n (among (x ∷ xs)) in
    let one : bit s x ≡ 1 = bit_set n (among (x ∷ xs)) x (r.1 x (Memᴰ.head refl)) ∙ ap flag (says_true (says_among (x ∷ xs) x) (Memᴰ.head refl)) in
    says_false (says_empty s) (λ h. omega (arith, h x))

pub some_entry : (cell : List ℕ) → is_empty cell ≡ false → ¬ (members_from 0 cell ≡ [])
some_entry cell e q = says_fails (says_empty cell) e (λ k. ⊎_elim (λ z. z) (λ o. absurd (Memᴰ.not-nil (rw q at ((members_have cell k).1 o))))
    (bit_cases cell k))
