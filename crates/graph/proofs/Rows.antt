-- A row of the closure store written as three parts, and the store row by row.
use mathlib.Core.List.{List, [], ◌++◌, append_assoc, append-nil}
use mathlib.Core.Bool.{Bool, cond}
use mathlib.Core.Path.{◌≡◌, refl, sym, ap, ap₂, ◌∙◌}
use Prim.Native.Nat.{ℕ, zero, suc, ◌+◌, ◌-◌, ◌*◌, ◌≤◌, ◌<◌}
use native.Mathlib.Omega.{arith}
use lib.ListN.{length, take, drop, length-append, length-drop, drop_of_length-le}
use lib.Seq.{take_at, drop_at}
use Rattle.prelude.specs.Part.{part, same_bytes, splice, zeros}
use Rattle.prelude.specs.PartLaws.{part_all, part_zeros, row_fits, row_length, says_same_bytes}
use Rattle.prelude.specs.SaysLaws.{choose, says_iff, says_same}
use Rattle.prelude.specs.SpliceLaws.{part_splice_after, splice_append, splice_front, splice_length, splice_over, splice_part}
use Rattle.prelude.specs.Concat.{concat_below}
use Rattle.prelude.specs.ConcatLaws.{concat_none, concat_more, concat_length, concat_row, concat_same}
use Rattle.sets.specs.Sets.{member, set_of, union}
use Rattle.sets.specs.SideLaws.{member_zeros}
use Rattle.sets.specs.SetsLaws.{set_length, union_length}
use Rattle.schema.specs.Numbers.{class_limit}
use Rattle.schema.specs.Layout.{class_set, attribute_set, closure_length, closure_width, reached_at, demanded_at, allowed_at}
use Rattle.schema.specs.Store.{Table, closure_at}
use Rattle.graph.proofs.FreshLaws.{closure_row_length, closure_rows_at, closure_rows_length, fresh_bytes, says_fresh}
use Rattle.graph.specs.FrontLaws.{fresh_front}
use Rattle.graph.specs.Graph.{lists_mandatory, lists_optional, closure_row, closure_rows, is_fresh}
use Rattle.graph.specs.Stages.{comes_to, passed_row, stage_row, stage_rows}
use Rattle.graph.proofs.Warshall.{stage_end, stage_first, stage_more, stage_none}

-- ---- one row

-- all of a row replaced by three parts, one after the other
three_parts : (row x y z : List ℕ) → length x ≡ class_set → length y ≡ attribute_set → length z ≡ attribute_set → length row ≡ closure_width
    → take allowed_at (take demanded_at (x ++ drop class_set (drop 0 row)) ++ (y ++ drop attribute_set (drop demanded_at (x ++ drop class_set (drop 0 row)))))
    ++ (z ++ drop attribute_set
    (drop allowed_at (take demanded_at (x ++ drop class_set (drop 0 row)) ++
    (y ++ drop attribute_set (drop demanded_at (x ++ drop class_set (drop 0 row)))))))
    ≡ x ++ (y ++ z)
three_parts row x y z lx ly lz lr =
    let r : List ℕ = drop class_set row in
    let rest : List ℕ = drop attribute_set r in
    let xy : length (x ++ y) ≡ allowed_at = length-append x y ∙ ap₂ (λ (m n : ℕ). m + n) lx ly in
    let short : length rest ≤ attribute_set = simp length-drop (omega arith) in
    let empty : drop attribute_set rest ≡ [] = drop_of_length-le rest short in
    rw (
      take_at x r class_set lx,
      drop_at x r class_set lx,
      ← append_assoc x y rest,
      take_at (x ++ y) rest allowed_at xy,
      drop_at (x ++ y) rest allowed_at
          xy,
      empty,
      append-nil z,
      append_assoc x y z,
    )

-- ---- the part of the store at one class

-- a row put where it stands
pub splice_row : (c : ℕ) (closure : List ℕ) → closure_length ≤ length closure → c < class_limit
    → splice (closure_width * c) (closure_at closure c) closure ≡ closure
splice_row c closure long l =
    let e : closure_width * c ≡ 0 + closure_width * c = omega arith in
    ap (λ (i : ℕ). splice i (closure_at closure c) closure) e
    ∙ splice_part (0 + closure_width * c) closure_width closure (row_fits 0 closure_width class_limit c (length closure) (omega arith) l)

-- ---- all rows, one after the other

module _ (f : ℕ → List ℕ) (o : List ℕ) (long : closure_length ≤ length o) (wide : (c : ℕ) → c < class_limit → length (f c) ≡ closure_width) where
  -- the first c rows are f's
  abbrev pub Rowed : ℕ → List ℕ → Type 0
  Rowed c now = now ≡ splice 0 (concat_below c f) o

  rows_long : (c : ℕ) → c ≤ class_limit → length (concat_below c f) ≡ closure_width * c
  rows_long c l = concat_length f closure_width c (λ k m. wide k (omega arith))

  rows_fit : (c : ℕ) → c ≤ class_limit → 0 + length (concat_below c f) ≤ length o
  rows_fit c l = omega (arith, rows_long c l)

  pub rowed_none : Rowed 0 o
  unfolding splice
  rowed_none = rw (concat_none f)

  pub rowed_more : (c : ℕ) (now r : List ℕ) → c < class_limit → Rowed c now → r ≡ splice (closure_width * c) (f c) now → Rowed (c + 1) r
  rowed_more c now r l p q =
      let at : closure_width * c ≡ 0 + length (concat_below c f) = omega (arith, rows_long c (omega arith)) in
      q ∙ ap (λ (n : ℕ). splice n (f c) now) at ∙ ap (splice (0 + length (concat_below c f)) (f c)) p
      ∙ splice_append 0 (concat_below c f) o (rows_fit c (omega arith)) (f c)
      ∙ ap (λ (v : List ℕ). splice 0 v o) (sym (concat_more f c))

  pub rowed_length : (c : ℕ) (now : List ℕ) → c ≤ class_limit → Rowed c now → length now ≡ length o
  rowed_length c now l p = ap length p ∙ splice_length 0 (concat_below c f) o (rows_fit c l)

  -- row c is still as it was
  pub rowed_kept : (c : ℕ) (now : List ℕ) → c < class_limit → Rowed c now → closure_at now c ≡ closure_at o c
  rowed_kept c now l p =
      ap (λ (s : List ℕ). closure_at s c) p
      ∙ part_splice_after 0 (concat_below c f) o (rows_fit c (omega arith)) (0 + closure_width * c) closure_width (omega (arith, rows_long c (omega arith)))

  pub rowed_end : (n c : ℕ) (now : List ℕ) → c ≤ n → n ≤ c → Rowed c now → Rowed n now
  rowed_end n c now h g p = let e : c ≡ n = omega arith in p ∙ ap (λ (m : ℕ). splice 0 (concat_below m f) o) e

  -- rows behind them that f leaves as they are
  pub rowed_past : (n d : ℕ) (now : List ℕ) → n + d ≤ class_limit → ((c : ℕ) → n ≤ c → c < n + d → f c ≡ closure_at o c) → Rowed n now → Rowed (n + d) now
  rowed_past n zero now l h p = rowed_end (n + 0) n now (omega arith) (omega arith) p
  rowed_past n (suc d) now l h p =
      let q = rowed_past n d now (omega arith) (λ c a b. h c a (omega arith)) p in
      let long_now : closure_length ≤ length now = omega (arith, long, rowed_length (n + d) now (omega arith) q) in
      let same : f (n + d) ≡ closure_at now (n + d) = h (n + d) (omega arith) (omega arith) ∙ sym (rowed_kept (n + d) now (omega arith) q) in
      rowed_end (n + suc d) (n + d + 1) now (omega arith) (omega arith)
      (rowed_more (n + d) now now (omega arith) q
      (sym (ap (λ (row : List ℕ). splice (closure_width * (n + d)) row now) same ∙ splice_row (n + d) now long_now (omega arith))))

  -- each row, when all are
  pub rowed_row : (now : List ℕ) → Rowed class_limit now → (c : ℕ) → c < class_limit → closure_at now c ≡ f c
  rowed_row now p c l =
      ap (λ (s : List ℕ). closure_at s c) (p ∙ splice_front (concat_below class_limit f) o)
      ∙ concat_row f closure_width class_limit (drop (length (concat_below class_limit f)) o) (λ k m. wide k m) c l

  -- all of them written over
  pub rowed_over : (g : ℕ → List ℕ) (now r : List ℕ) → ((c : ℕ) → c < class_limit → length (g c) ≡ closure_width) → Rowed class_limit now
      → r ≡ splice 0 (concat_below class_limit g) now → r ≡ splice 0 (concat_below class_limit g) o
  rowed_over g now r w p q =
      let all = rows_long class_limit (omega arith) in
      let new : length (concat_below class_limit g) ≡ closure_width * class_limit = concat_length g closure_width class_limit w in
      q ∙ ap (splice 0 (concat_below class_limit g)) p
      ∙ splice_over 0 (concat_below class_limit g) (concat_below class_limit f) o (new ∙ sym all) (rows_fit class_limit (omega arith))

-- ---- the stages

pub stage_length : (t : Table) (k c : ℕ) → length (stage_row t k c) ≡ closure_width
unfolding stage_row
stage_length t k c = simp (length-append, set_length)

pub passed_length : (k : ℕ) (own row : List ℕ) → length row ≡ closure_width → length (passed_row k own row) ≡ closure_width
unfolding passed_row
passed_length k own row l =
    choose (λ (r : List ℕ). length r ≡ closure_width) (member (part reached_at class_set row) k) (λ e. union_length row own ∙ l) (λ e. l)

pub passed_rows : (k : ℕ) (own closure : List ℕ) → closure_length ≤ length closure → (c : ℕ) → c < class_limit
    → length (passed_row k own (closure_at closure c)) ≡ closure_width
passed_rows k own closure long c l =
    passed_length k own (closure_at closure c) (row_length 0 closure_width class_limit c closure (omega arith) l)

-- a class without a row gets nothing
pub passed_none : (k : ℕ) (own row : List ℕ) → row ≡ zeros closure_width → passed_row k own row ≡ row
unfolding passed_row
passed_none k own row e =
    ap (λ (q : Bool). cond q (union row own) row)
    (ap (λ (r : List ℕ). member (part reached_at class_set r) k) e ∙ ap (λ (r : List ℕ). member r k) (part_zeros reached_at class_set closure_width (omega arith))
    ∙ member_zeros class_set k)

-- the test, of a row that was looked up
pub passed_test : (row found : List ℕ) (k : ℕ) (set : List ℕ) (r : Bool) → found ≡ row → set ≡ part reached_at class_set found → r ≡ member set k
    → member (part reached_at class_set row) k ≡ r
passed_test row found k set r e p q =
    ap (λ (x : List ℕ). member (part reached_at class_set x) k) (sym e) ∙ ap (λ (x : List ℕ). member x k) (sym p) ∙ sym q

-- stage 0 of a class, written as three parts
pub first_written : (t : Table) (c : ℕ) → c < t.count → (row x y z : List ℕ) → length row ≡ closure_width → x ≡ set_of class_set (comes_to t 0 c)
    → y ≡ set_of attribute_set (lists_mandatory t c) → z ≡ set_of attribute_set (lists_optional t c)
    → take allowed_at (take demanded_at (x ++ drop class_set (drop 0 row)) ++ (y ++ drop attribute_set (drop demanded_at (x ++ drop class_set (drop 0 row)))))
    ++ (z ++ drop attribute_set
    (drop allowed_at (take demanded_at (x ++ drop class_set (drop 0 row)) ++
    (y ++ drop attribute_set (drop demanded_at (x ++ drop class_set (drop 0 row)))))))
    ≡ stage_row t 0 c
first_written t c there row x y z l p q s =
    three_parts row x y z (ap length p ∙ set_length class_set _) (ap length q ∙ set_length attribute_set _) (ap length s ∙ set_length attribute_set _) l
    ∙ ap₂ ◌++◌ p (ap₂ ◌++◌ q s)
    ∙ stage_first t c there (comes_to t 0 c) (lists_mandatory t c) (lists_optional t c) (λ k m. refl) (λ b m. refl) (λ b m. refl)

module _ (t : Table) (o : List ℕ) (long : closure_length ≤ length o) where
  -- the store is at stage k
  abbrev pub Staged : ℕ → List ℕ → Type 0
  Staged k now = now ≡ splice 0 (stage_rows t k) o

  pub staged_length : (k : ℕ) (now : List ℕ) → Staged k now → length now ≡ length o
  unfolding stage_rows
  staged_length k now p = rowed_length (stage_row t k) o long (λ c l. stage_length t k c) class_limit now (omega arith) p

  -- a store at a stage, given that stage again; and given the closure, it has nothing left of the stage
  pub staged_again : (k : ℕ) (now : List ℕ) → Staged k now → now ≡ splice 0 (stage_rows t k) now
  unfolding stage_rows
  staged_again k now p =
      p ∙ sym (rowed_over (stage_row t k) o long (λ c l. stage_length t k c) (stage_row t k) now _ (λ c l. stage_length t k c) p refl)

  pub staged_over : (k : ℕ) (now r : List ℕ) → Staged k now → r ≡ splice 0 (closure_rows t) now → r ≡ splice 0 (closure_rows t) o
  unfolding stage_rows closure_rows
  staged_over k now r p q = rowed_over (stage_row t k) o long (λ c l. stage_length t k c) (closure_row t) now r (λ c l. closure_row_length t c) p q

  -- class k has passed on what it has to each class that has a row
  pub staged_more : t.count ≤ class_limit → (k : ℕ) (now r : List ℕ) → k < t.count → Staged k now
      → r ≡ splice 0 (concat_below t.count (λ c. passed_row k (closure_at now k) (closure_at now c))) now → Staged (k + 1) r
  unfolding stage_rows
  staged_more few k now r l p q =
      rowed_over (stage_row t k) o long (λ c m. stage_length t k c) (stage_row t (k + 1)) now r (λ c m. stage_length t (k + 1) c) p
      (all ∙ ap (λ (v : List ℕ). splice 0 v now) (concat_same class_limit passed (stage_row t (k + 1)) each))
    where
      passed : ℕ → List ℕ
      passed c = passed_row k (closure_at now k) (closure_at now c)

      long_now : closure_length ≤ length now
      long_now = omega (arith, long, staged_length k now p)

      row : (c : ℕ) → c < class_limit → closure_at now c ≡ stage_row t k c
      row = rowed_row (stage_row t k) o long (λ c m. stage_length t k c) now p

      each : (c : ℕ) → c < class_limit → passed c ≡ stage_row t (k + 1) c
      each c m = ap₂ (passed_row k) (row k (omega arith)) (row c m) ∙ stage_more t few k c l

      all : r ≡ splice 0 (concat_below class_limit passed) now
      all =
          let e : t.count + (class_limit - t.count) ≡ class_limit = omega arith in
          rowed_past passed now long_now (passed_rows k (closure_at now k) now long_now) t.count (class_limit - t.count) r (omega arith)
          (λ c a b. passed_none k (closure_at now k) (closure_at now c) (row c (omega arith) ∙ stage_none t k c a)) q
          ∙ ap (λ (n : ℕ). splice 0 (concat_below n passed) now) e

  pub staged_end : (k : ℕ) (now : List ℕ) → k ≡ t.count → Staged k now → now ≡ splice 0 (closure_rows t) o
  unfolding stage_rows closure_rows
  staged_end k now e p = p
      ∙ ap (λ (v : List ℕ). splice 0 v o) (concat_same class_limit (stage_row t k) (closure_row t) (λ c l. ap (λ (j : ℕ). stage_row t j c) e ∙ stage_end t c))

-- ---- the store afresh

pub fresh_same_bytes : (t : Table) (k : List ℕ) → same_bytes (part 0 closure_length k) (closure_rows t) ≡ is_fresh t k
fresh_same_bytes t k =
    says_same
    (says_iff (says_same_bytes (part 0 closure_length k) (closure_rows t)) (
      λ e. (says_fresh t k).holds
          (fresh_front k (closure_rows t) (e ∙ sym all) t ∙ (says_fresh t (closure_rows t)).passes (closure_rows_at t)),
      λ h. fresh_bytes t k ((says_fresh t k).passes h),
    ))
    (says_fresh t k)
  where
    all : part 0 closure_length (closure_rows t) ≡ closure_rows t
    all = part_all closure_length (closure_rows t) (omega (arith, closure_rows_length t))
