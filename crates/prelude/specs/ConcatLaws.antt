-- Laws of byte strings one after the other: those that a loop cites, how long they are, and where each of them stands.
use Rattle.std.specs.Prelude.{◌≡◌, length}
use Rattle.std.proofs.Math.Path.{refl, ap}
use Rattle.std.proofs.Common.{ap₂, ◌∙◌, arith, add-zero, add-one, length-append}
use Rattle.std.proofs.Math.Logic.{⊎_elim}
use mathlib.Core.List.{List, [], ◌++◌, append_assoc, append-nil}
use Prim.Native.Nat.{ℕ, zero, suc, ◌+◌, ◌-◌, ◌*◌, ◌≤◌, ◌<◌}
use Rattle.prelude.specs.BelowLaws.{last_or_less}
use Rattle.prelude.specs.Part.{part, row_at}
use Rattle.prelude.specs.PartLaws.{part_none, part_add, part_between}
use Rattle.prelude.specs.Concat.{concat_below}

module _ (f : ℕ → List ℕ) where
  -- ---- for a loop

  pub concat_none : concat_below 0 f ≡ []
  unfolding concat_below
  concat_none = refl

  pub concat_more : (k : ℕ) → concat_below (k + 1) f ≡ concat_below k f ++ f k
  unfolding concat_below
  concat_more k = rw (add-one k)

  pub concat_more_length : (k : ℕ) → length (concat_below (k + 1) f) ≡ length (concat_below k f) + length (f k)
  concat_more_length k = ap length (concat_more k) ∙ length-append (concat_below k f) (f k)

  grows : (k m : ℕ) → length (concat_below k f) ≤ length (concat_below (k + m) f)
  grows k zero = omega (arith, ap (λ (n : ℕ). length (concat_below n f)) (add-zero k))
  grows k (suc m) =
      let e : k + suc m ≡ k + m + 1 = omega arith in
      omega (arith, grows k m, concat_more_length (k + m), ap (λ (n : ℕ). length (concat_below n f)) e)

  -- the first k are within the first n
  pub concat_within : (k n : ℕ) → k ≤ n → length (concat_below k f) ≤ length (concat_below n f)
  concat_within k n l =
      let e : n ≡ k + (n - k) = omega arith in
      omega (arith, grows k (n - k), ap (λ (m : ℕ). length (concat_below m f)) e)

  -- and so is the next
  pub concat_next_within : (k n : ℕ) → k < n → length (concat_below k f) + length (f k) ≤ length (concat_below n f)
  concat_next_within k n l = omega (arith, concat_more_length k, concat_within (k + 1) n (omega arith))

  -- ---- how long they are

  -- each has at most w bytes
  pub concat_short : (w n : ℕ) → ((k : ℕ) → k < n → length (f k) ≤ w) → length (concat_below n f) ≤ w * n
  concat_short w zero h = omega (arith, ap length concat_none)
  concat_short w (suc n) h =
      omega (
        arith,
        concat_short w n (λ k l. h k (omega arith)),
        h n (omega arith),
        concat_more_length n,
        ap (λ (m : ℕ). length (concat_below m f))
            (add-one n),
      )

  -- each has w bytes
  pub concat_length : (w n : ℕ) → ((k : ℕ) → k < n → length (f k) ≡ w) → length (concat_below n f) ≡ w * n
  concat_length w zero h = omega (arith, ap length concat_none)
  concat_length w (suc n) h =
      omega (
        arith,
        concat_length w n (λ k l. h k (omega arith)),
        h n (omega arith),
        concat_more_length n,
        ap (λ (m : ℕ). length (concat_below m f))
            (add-one n),
      )

  -- ---- where each stands

  -- what stands behind the first k of n: f k, and the rest
  pub record Behind (n k : ℕ) : Type 0 where
    pub rest : List ℕ
    pub is : concat_below n f ≡ concat_below k f ++ (f k ++ rest)

  pub concat_behind : (n k : ℕ) → k < n → Behind n k
  unfolding concat_below
  concat_behind zero k l = absurd (omega arith)
  concat_behind (suc n) k l = ⊎_elim (λ m. further (concat_behind n k m)) last (last_or_less l)
    where
      further : Behind n k → Behind (suc n) k
      further b = record { rest = b.rest ++ f n; is = ap (λ (x : List ℕ). x ++ f n) b.is ∙ simp append_assoc }

      last : k ≡ n → Behind (suc n) k
      last e = record { rest = []; is = rw (e, append-nil) }

  -- where each has w bytes they are rows, whatever comes behind them
  pub concat_row : (w n : ℕ) (q : List ℕ) → ((k : ℕ) → k < n → length (f k) ≡ w) → (k : ℕ) → k < n → row_at 0 w (concat_below n f ++ q) k ≡ f k
  concat_row w n q h k l =
      let b = concat_behind n k l in
      let apart : concat_below n f ++ q ≡ concat_below k f ++ (f k ++ (b.rest ++ q)) = ap (λ (x : List ℕ). x ++ q) b.is ∙ simp append_assoc in
      rw apart (part_between (concat_below k f) (f k) (b.rest ++ q) (0 + w * k) w (omega (arith, concat_length w k (λ j m. h j (omega arith)))) (h k l))

-- the same strings, one by one
pub concat_same : (n : ℕ) (f g : ℕ → List ℕ) → ((k : ℕ) → k < n → f k ≡ g k) → concat_below n f ≡ concat_below n g
unfolding concat_below
concat_same zero f g h = refl
concat_same (suc n) f g h = ap₂ (λ (x y : List ℕ). x ++ y) (concat_same n f g (λ k l. h k (omega arith))) (h n (omega arith))

-- n rows are their rows one after the other
pub rows_concat : (base w n : ℕ) (s : List ℕ) → part base (w * n) s ≡ concat_below n (row_at base w s)
unfolding concat_below
rows_concat base w zero s = let z : w * 0 ≡ 0 = omega arith in rw z (part_none base s)
rows_concat base w (suc n) s =
    let e : w * suc n ≡ w * n + w = omega arith in
    rw e (part_add base (w * n) w s ∙ ap (λ (x : List ℕ). x ++ row_at base w s n) (rows_concat base w n s))
