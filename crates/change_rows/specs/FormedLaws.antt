-- The row that a change leaves is well-formed, where what the change carries was read from bytes and the row before it was well-formed.
use Rattle.std.specs.Prelude.{drop, get_or, ◌+◌, ◌<◌, ◌≤◌, ℕ, List, [], ◌∷◌, ◌≡◌, ◌⊎◌, cond, false, not, true}
use Rattle.std.proofs.Math.ListN.{length}
use native.Mathlib.Omega.{arith}
use Rattle.std.proofs.Common.{◌∙◌, ap, sym, inl, inr}
use Rattle.std.proofs.Math.Path.{refl}
use Rattle.std.proofs.lemmas.Bool.{false≢true}
use Rattle.change_read.specs.declared.carried.OpenList.TheVariants.{Optional, Auxiliary, Superior}
use Rattle.change_read.specs.declared.read.Change.TheVariants.{Add, SetRange, Rename, Deactivate, Reactivate, AddEntry, RemoveEntry}
use Rattle.change_read.specs.declared.carried.OpenList.{OpenList}
use Rattle.change_read.specs.declared.read.Change.{Change}
use Rattle.change_read.specs.ChangeLaws.{Reads, change_length, name_formed, range_formed}
use Rattle.change_read.specs.Carried.{entry_of, list_of, new_name, new_range}
use Rattle.change_read.specs.Reading.{format_of}
use Rattle.change_read.specs.AdditionLaws.{row_added}
use Rattle.schema.specs.declared.number.TableId.TheVariants.{Attributes, Classes}
use Rattle.schema.specs.declared.number.TableId.{TableId}
use Rattle.schema.specs.Layout.{class_width, common_width, defunct_at, open_auxiliary_at, open_optional_at, open_superior_at, row_width}
use Rattle.schema.specs.LayoutLaws.{common_narrow}
use Rattle.schema.specs.Layout.{attribute_width, name_at, name_limit, range_lower_at, range_upper_at}
use Rattle.rows_format.specs.declared.format.Format.TheVariants.{Row}
use Rattle.rows_format.specs.declared.column.Presence.TheVariants as presence
use Rattle.rows_format.specs.declared.column.Encoding.TheVariants.{Entries}
use Rattle.rows_format.specs.Formats.{attribute_columns, class_columns, columns_of, common_columns, may_be_defunct, own_columns, column, new_lower_at, new_name_at}
use Rattle.rows_format.specs.Columns.{column_width, has_value, well_formed_cell, mark}
use Rattle.rows_format.specs.Encodings.{holds, room, passes}
use Rattle.prelude.specs.Below.{all_below}
use Rattle.prelude.specs.Part.{is_zero, splice, zeros, Bytes, part}
use Rattle.prelude.specs.SaysLaws.{says_fails, says_false, true_or_false}
use Rattle.prelude.specs.PartLaws.{says_zero, zeros_at, zeros_length, part_add, part_all, part_length}
use Rattle.prelude.specs.SpliceLaws.{splice_append, splice_length}
use Rattle.sets.specs.SetsLaws.{bit_ext, bit_zeros, says_empty, with_length, without_length, with_bytes, without_bytes}
use Rattle.sets.specs.Sets.{is_empty}
use Rattle.rows_read.specs.Stopping.{column_at}
use Rattle.rows_read.specs.WellFormedLaws.{row_replaced}
use Rattle.rows_read.specs.WellFormed.{well_formed}
use Rattle.change_rows.specs.RowsLaws.{list_inside}
use Rattle.change_rows.specs.Lists.{list_width, open_at, open_of}
use Rattle.change_rows.specs.Rows.{edited_row, is_addition, table_for}

-- any bytes are a set: none, or some member
set_formed : (t : TableId) (tag at : ℕ) (cell : List ℕ) → ((i : ℕ) → get_or cell i 0 < 256)
    → well_formed_cell (column presence.Optional tag (Entries t) at) cell ≡ true
unfolding well_formed_cell has_value mark holds
set_formed t tag at cell b = go (true_or_false (is_zero cell))
  where
    go : (is_zero cell ≡ true) ⊎ (is_zero cell ≡ false) → cond (not (is_zero cell)) (not (is_empty (drop 0 cell))) (is_zero cell) ≡ true
    go (inl q) = rw q
    go (inr q) = rw q (ap not (says_false (says_empty cell) (λ e. says_fails (says_zero cell) q (bit_ext cell (zeros (length cell)) (sym
        (zeros_length (length cell))) b
        (λ i. (rw (zeros_at (length cell) i) (omega arith))) (λ k. e k ∙ sym (bit_zeros (length cell) k))))))

-- a cell of what every row begins with becomes another
common_formed : (t : TableId) (i at : ℕ) (new row : List ℕ) → i < 5 → (column_at (columns_of (Row t)) i).at ≡ at
    → length new ≡ column_width (column_at (columns_of (Row t)) i) → at + length new ≤ common_width
    → well_formed_cell (column_at (columns_of (Row t)) i) new ≡ true → length row ≡ row_width t → well_formed t row ≡ true
    → well_formed t (splice at new row) ≡ true
common_formed t i at new row l is wide inside cell long f =
    let narrow = common_narrow t in
    let long₁ : 5 ≤ length (columns_of (Row t)) = columns_long t in
    rw (← is) (row_replaced t i new row (omega arith) (omega arith) wide cell (inl (omega arith)) (omega arith) f)
  where
    columns_long : (t : TableId) → 5 ≤ length (columns_of (Row t))
    columns_long Attributes = unfold columns_of common_columns own_columns attribute_columns in omega arith
    columns_long Classes = unfold columns_of common_columns own_columns class_columns in omega arith

state_formed : (t : TableId) (b : ℕ) (row : List ℕ) → (b ≡ 0) ⊎ (b ≡ 1) → length row ≡ row_width t → well_formed t row ≡ true
    → well_formed t (splice defunct_at (b ∷ []) row) ≡ true
unfolding columns_of common_columns column_width mark room
state_formed t b row d long f = common_formed t 4 defunct_at (b ∷ []) row (omega arith) refl refl (omega arith) (cell b d) long f
  where
    cell : (b : ℕ) → (b ≡ 0) ⊎ (b ≡ 1) → well_formed_cell may_be_defunct (b ∷ []) ≡ true
    cell b (inl e) = rw e (unfold well_formed_cell has_value is_zero all_below holds mark passes in refl)
    cell b (inr e) = rw e (unfold well_formed_cell has_value is_zero all_below holds mark passes in refl)

-- an open list becomes another set
list_formed : (list : OpenList) (new row : List ℕ) → length new ≡ list_width list → ((i : ℕ) → get_or new i 0 < 256) → length row ≡ class_width
    → well_formed Classes row ≡ true → well_formed Classes (splice (open_at list) new row) ≡ true
unfolding columns_of common_columns own_columns class_columns column_width mark room
list_formed Optional new row wide b long f = row_replaced Classes 10 new row (omega arith) (omega arith) wide
    (set_formed Attributes 21 open_optional_at new b) (inr (omega arith)) (omega arith) f
list_formed Auxiliary new row wide b long f = row_replaced Classes 12 new row (omega arith) (omega arith) wide
    (set_formed Classes 23 open_auxiliary_at new b) (inr (omega arith)) (omega arith) f
list_formed Superior new row wide b long f = row_replaced Classes 14 new row (omega arith) (omega arith) wide
    (set_formed Classes 25 open_superior_at new b) (inr (omega arith)) (omega arith) f

-- a range: both ends at once
range_both : (r row : List ℕ) → length r ≡ class_width → length row ≡ attribute_width
    → splice range_upper_at (part 5 5 (new_range r)) (splice range_lower_at (part 0 5 (new_range r)) row) ≡ splice range_lower_at (new_range r) row
range_both r row l long =
    let n : length (new_range r) ≡ 10 = part_length new_lower_at 10 r (omega arith) in
    let a : length (part 0 5 (new_range r)) ≡ 5 = part_length 0 5 (new_range r) (omega arith) in
    let at : range_upper_at ≡ range_lower_at + length (part 0 5 (new_range r)) = omega arith in
    ap (λ (x : ℕ). splice x (part 5 5 (new_range r)) (splice range_lower_at (part 0 5 (new_range r)) row)) at
    ∙ splice_append range_lower_at (part 0 5 (new_range r)) row (omega arith) (part 5 5 (new_range r))
    ∙ ap (λ (x : List ℕ). splice range_lower_at x row) (sym (part_add 0 5 5 (new_range r)) ∙ part_all 10 (new_range r) (omega arith))

range_formed_row : (x r row : List ℕ) → Bytes x → Reads x SetRange r → length row ≡ attribute_width → well_formed Attributes row ≡ true
    → well_formed Attributes (splice range_lower_at (new_range r) row) ≡ true
unfolding columns_of common_columns own_columns attribute_columns column_width mark room format_of
range_formed_row x r row b reads long f =
    let l = change_length x SetRange r b reads in
    let n : length (new_range r) ≡ 10 = part_length new_lower_at 10 r (omega arith) in
    let lower = part_length 0 5 (new_range r) (omega arith) in
    let upper = part_length 5 5 (new_range r) (omega arith) in
    let cells = range_formed x SetRange r b reads refl in
    let first : length (splice range_lower_at (part 0 5 (new_range r)) row) ≡ length row = splice_length range_lower_at (part 0 5 (new_range r)) row (omega arith) in
    rw (← (range_both r row l long))
    (row_replaced Attributes 10 (part 5 5 (new_range r)) (splice range_lower_at (part 0 5 (new_range r)) row) (omega arith) (omega arith) upper cells.1
    (inr (omega arith)) (omega arith)
    (row_replaced Attributes 9 (part 0 5 (new_range r)) row (omega arith) (omega arith) lower cells.0 (inr (omega arith)) (omega arith) f))

-- any change
pub edited_formed : (change : Change) (x r row : List ℕ) → Bytes x → Reads x change r
    → (is_addition change ≡ true) ⊎ ((length row ≡ row_width (table_for change)) × (well_formed (table_for change) row ≡ true))
    → well_formed (table_for change) (edited_row change r row) ≡ true
unfolding edited_row
edited_formed (Add t) x r row b reads h = (row_added t x r b reads).formed
edited_formed SetRange x r row b reads (inr h) = range_formed_row x r row b reads h.0 h.1
edited_formed (Rename t) x r row b reads (inr h) = name_row t x r row b reads h.0 h.1
  where
    name_row : (t : TableId) (x r row : List ℕ) → Bytes x → Reads x (Rename t) r → length row ≡ row_width t → well_formed t row ≡ true
        → well_formed t (splice name_at (new_name r) row) ≡ true
    name_row t x r row b reads long f =
        unfold columns_of common_columns column_width mark room format_of in
        (let l = change_length x (Rename t) r b reads in
        let n : length (new_name r) ≡ 1 + name_limit = part_length new_name_at (1 + name_limit) r (omega arith) in
        common_formed t 0 name_at (new_name r) row (omega arith) refl (omega arith) (omega arith) (name_formed x (Rename t) r b reads refl t) long f)
edited_formed (Deactivate t) x r row b reads (inr h) = state_formed t 1 row (inr refl) h.0 h.1
edited_formed (Reactivate t) x r row b reads (inr h) = state_formed t 0 row (inl refl) h.0 h.1
edited_formed AddEntry x r row b reads (inr h) =
    let inside = list_inside (list_of r) in
    list_formed (list_of r) _ row (with_length (entry_of r) (open_of (list_of r) row) ∙ part_length (open_at (list_of r)) (list_width (list_of r)) row
    (omega (arith, h.0)))
    (with_bytes (entry_of r) (open_of (list_of r) row)) h.0 h.1
edited_formed RemoveEntry x r row b reads (inr h) =
    let inside = list_inside (list_of r) in
    list_formed (list_of r) _ row
    (without_length (entry_of r) (open_of (list_of r) row) ∙ part_length (open_at (list_of r)) (list_width (list_of r)) row (omega (arith, h.0)))
    (without_bytes (entry_of r) (open_of (list_of r) row)) h.0 h.1
edited_formed SetRange x r row b reads (inl e) = absurd (false≢true e)
edited_formed (Rename t) x r row b reads (inl e) = absurd (false≢true e)
edited_formed (Deactivate t) x r row b reads (inl e) = absurd (false≢true e)
edited_formed (Reactivate t) x r row b reads (inl e) = absurd (false≢true e)
edited_formed AddEntry x r row b reads (inl e) = absurd (false≢true e)
edited_formed RemoveEntry x r row b reads (inl e) = absurd (false≢true e)
