-- The closure store after a change, row by row: where the kept sets of each class stand, how long the store is, and what stands past it.
use Rattle.std.specs.Prelude.{drop, ◌*◌, ◌+◌, ◌<◌, ◌≤◌, ℕ, ◌≡◌}
use Rattle.std.proofs.Math.ListN.{length}
use native.Mathlib.Omega.{arith}
use Rattle.std.proofs.Math.Decide.{dec_lt}
use mathlib.Core.List.{List}
use Rattle.std.proofs.Common.{◌∙◌}
use Rattle.std.proofs.Math.Path.{ap, refl}
use Rattle.schema.specs.declared.number.TableId.TheVariants.{Attributes, Classes}
use Rattle.schema.specs.Numbers.{class_limit}
use Rattle.schema.specs.Layout.{closure_length, closure_width}
use Rattle.schema.specs.Store.{Table, closure_at}
use Rattle.change_read.specs.declared.read.Change.{Change}
use Rattle.change_read.specs.declared.carried.OpenList.{OpenList}
use Rattle.change_read.specs.declared.read.Change.TheVariants.{Add, SetRange, Rename, Deactivate, Reactivate, AddEntry, RemoveEntry}
use Rattle.change_read.specs.declared.carried.OpenList.TheVariants.{Optional, Auxiliary, Superior}
use Rattle.change_read.specs.Carried.{entry_of, list_of, target_of}
use Rattle.prelude.specs.Part.{part, splice}
use Rattle.prelude.specs.PartLaws.{row_fits, row_length}
use Rattle.prelude.specs.Concat.{concat_below}
use Rattle.prelude.specs.ConcatLaws.{concat_length, concat_row}
use Rattle.prelude.specs.SaysLaws.{choose}
use Rattle.prelude.specs.SpliceLaws.{part_splice_after, part_splice_before, part_splice_same, splice_after, splice_front, splice_length}
use Rattle.sets.specs.Sets.{union}
use Rattle.sets.specs.SetsLaws.{set_length, union_length}
use Rattle.graph.specs.Graph.{closure_row}
use Rattle.graph.proofs.FreshLaws.{closure_row_length}
use Rattle.closure_change.specs.Kept.{each_holding, holds, joined_into, named_sets, new_row, option_row, own_row, refreshed_at, row_where, with_new}
use Rattle.closure_change.specs.After.{closure_after, entry_joined}

-- ---- every class whose kept reach holds a class

module _ (closure : List ℕ) (long : closure_length ≤ length closure) where
  pub kept_length : (c : ℕ) → c < class_limit → length (closure_at closure c) ≡ closure_width
  kept_length c l = row_length 0 closure_width class_limit c closure (omega arith) l

  module _ (n k : ℕ) (f : ℕ → List ℕ → List ℕ) (wide : (c : ℕ) → c < class_limit → length (f c (closure_at closure c)) ≡ closure_width) where
    abbrev rows : List ℕ
    rows = concat_below class_limit (row_where n k f closure)

    pub where_length : (c : ℕ) → c < class_limit → length (row_where n k f closure c) ≡ closure_width
    unfolding row_where
    where_length c l = choose (λ (x : List ℕ). length x ≡ closure_width) (holds n k c (closure_at closure c)) (λ q. wide c l) (λ q. kept_length c l)

    pub rows_length : length rows ≡ closure_length
    rows_length = concat_length (row_where n k f closure) closure_width class_limit where_length

    pub each_length : length (each_holding n k f closure) ≡ length closure
    unfolding each_holding
    each_length = splice_length 0 rows closure (omega (arith, rows_length))

    pub each_past : drop closure_length (each_holding n k f closure) ≡ drop closure_length closure
    unfolding each_holding
    each_past = splice_after 0 rows closure (omega (arith, rows_length)) closure_length (omega (arith, rows_length))

    -- the kept sets of each class are those that it was given
    pub each_at : (c : ℕ) → c < class_limit → closure_at (each_holding n k f closure) c ≡ row_where n k f closure c
    unfolding each_holding
    each_at c l =
        ap (λ (x : List ℕ). closure_at x c) (splice_front rows closure)
        ∙ concat_row (row_where n k f closure) closure_width class_limit (drop (length rows) closure) where_length c l

  -- sets joined in, and sets worked out afresh, are rows of the store
  pub joined_wide : (more : List ℕ) (c : ℕ) → c < class_limit → length (union (closure_at closure c) more) ≡ closure_width
  joined_wide more c l = union_length (closure_at closure c) more ∙ kept_length c l

  pub fresh_wide : (t : Table) (c : ℕ) → c < class_limit → length (closure_row t c) ≡ closure_width
  fresh_wide t c l = closure_row_length t c

  -- ---- an added class

  module _ (t : Table) (n : ℕ) (room : n < class_limit) where
    pub new_length : length (new_row t closure n) ≡ closure_width
    unfolding new_row named_sets
    new_length = union_length (named_sets t closure n) (own_row n (t.row n)) ∙ set_length closure_width _

    new_fits : closure_width * n + length (new_row t closure n) ≤ length closure
    new_fits = omega (arith, row_fits 0 closure_width class_limit n (length closure) (omega arith) room, new_length)

    pub with_new_length : length (with_new t n closure) ≡ length closure
    unfolding with_new
    with_new_length = splice_length (closure_width * n) (new_row t closure n) closure new_fits

    pub with_new_past : drop closure_length (with_new t n closure) ≡ drop closure_length closure
    unfolding with_new
    with_new_past = splice_after (closure_width * n) (new_row t closure n) closure new_fits closure_length (omega (arith, new_length))

    -- its kept sets, and those of any other class
    pub with_new_same : closure_at (with_new t n closure) n ≡ new_row t closure n
    unfolding with_new
    with_new_same =
        let z : 0 + closure_width * n ≡ closure_width * n = omega arith in
        ap (λ (i : ℕ). part i closure_width (splice (closure_width * n) (new_row t closure n) closure)) z
        ∙ part_splice_same (closure_width * n) (new_row t closure n) closure new_fits closure_width (omega (arith, new_length))

    pub with_new_other : (c : ℕ) → ¬ (c ≡ n) → closure_at (with_new t n closure) c ≡ closure_at closure c
    unfolding with_new
    with_new_other c d = go (dec_lt c n)
      where
        go : Dec (c < n) → closure_at (splice (closure_width * n) (new_row t closure n) closure) c ≡ closure_at closure c
        go (yes l) = part_splice_before (closure_width * n) (new_row t closure n) closure new_fits (0 + closure_width * c) closure_width
            (row_fits 0 closure_width n c (closure_width * n) (omega arith) l)
        go (no g) = part_splice_after (closure_width * n) (new_row t closure n) closure new_fits (0 + closure_width * c) closure_width
            (omega (arith, new_length, row_fits 0 closure_width c n (closure_width * c) (omega arith) (omega arith)))

  -- ---- any change: the store keeps its length and what stands past its rows

  module _ (n k : ℕ) where
    entry_length : (list : OpenList) (x : ℕ) → length (entry_joined list x n k closure) ≡ length closure
    unfolding joined_into
    entry_length Optional x = each_length n k _ (joined_wide (option_row x))
    entry_length Auxiliary x = each_length n k _ (joined_wide (closure_at closure x))
    entry_length Superior x = refl

    entry_past : (list : OpenList) (x : ℕ) → drop closure_length (entry_joined list x n k closure) ≡ drop closure_length closure
    unfolding joined_into
    entry_past Optional x = each_past n k _ (joined_wide (option_row x))
    entry_past Auxiliary x = each_past n k _ (joined_wide (closure_at closure x))
    entry_past Superior x = refl

  pub after_length : (change : Change) (r : List ℕ) (t : Table) (n : ℕ) → (change ≡ Add Classes → n < class_limit)
      → length (closure_after change r t n closure) ≡ length closure
  unfolding refreshed_at
  after_length (Add Attributes) r t n room = refl
  after_length (Add Classes) r t n room = with_new_length t n (room refl)
  after_length SetRange r t n room = refl
  after_length (Rename u) r t n room = refl
  after_length (Deactivate u) r t n room = refl
  after_length (Reactivate u) r t n room = refl
  after_length AddEntry r t n room = entry_length n (target_of r) (list_of r) (entry_of r)
  after_length RemoveEntry r t n room = each_length n (target_of r) _ (fresh_wide t)

  pub after_past : (change : Change) (r : List ℕ) (t : Table) (n : ℕ) → (change ≡ Add Classes → n < class_limit)
      → drop closure_length (closure_after change r t n closure) ≡ drop closure_length closure
  unfolding refreshed_at
  after_past (Add Attributes) r t n room = refl
  after_past (Add Classes) r t n room = with_new_past t n (room refl)
  after_past SetRange r t n room = refl
  after_past (Rename u) r t n room = refl
  after_past (Deactivate u) r t n room = refl
  after_past (Reactivate u) r t n room = refl
  after_past AddEntry r t n room = entry_past n (target_of r) (list_of r) (entry_of r)
  after_past RemoveEntry r t n room = each_past n (target_of r) _ (fresh_wide t)
