-- What the row that a change leaves has from the row before it: every field but the one that is replaced.
use Rattle.schema.specs.ClassRow.{open_auxiliary_of, open_optional_of}
use Rattle.graph.specs.Changes.{AuxiliaryMore, OptionalMore, SameLists, SameNames}
use Rattle.schema.specs.Layout.{class_set, fixed_auxiliary_at, fixed_optional_at, open_auxiliary_at, open_optional_at, open_superior_at}
use Rattle.schema.specs.LayoutLaws.{common_narrow}
use Rattle.change_read.specs.declared.read.Change.TheVariants.{Add, SetRange, Rename, Deactivate, Reactivate, AddEntry, RemoveEntry}
use Rattle.change_read.specs.declared.carried.OpenList.TheVariants.{Optional, Auxiliary, Superior}
use Rattle.prelude.specs.SpliceLaws.{splice_at_before, part_splice_before, splice_at_after, part_splice_after, splice_at_same, part_splice_same}
use Rattle.prelude.specs.BigEndianLaws.{number_in_part}
use Rattle.rows_format.specs.Formats.{new_name_at, new_lower_at}
use Rattle.sets.specs.SetsLaws.{with_length, without_length}
use Rattle.prelude.specs.PartLaws.{part_length}
use Rattle.change_rows.specs.RowsLaws.{list_inside}
use Rattle.schema.specs.declared.number.TableId.TheVariants.{Attributes, Classes}
use Rattle.sets.specs.Sets.{with_member, without_member}
use Rattle.change_read.specs.Carried.{new_name, new_range, list_of, entry_of}
use Rattle.std.proofs.Common.{arith, true≢false, inr, inl, ap, sym, ◌∙◌}
use Rattle.rules.specs.RowChange.{Fixed}
use Rattle.prelude.specs.BigEndian.{big_endian}
use Rattle.schema.specs.Row.{flag_at, is_defunct}
use Rattle.prelude.specs.Part.{part, splice}
use Rattle.std.specs.Prelude.{false, true, ◌⊎◌, ◌≡◌, length, get_or, List, ◌∷◌, [], ℕ, ◌+◌, ◌≤◌, ◌<◌, eqb}
use Rattle.std.proofs.lemmas.Bool.{false≢true}
use Rattle.change_rows.specs.Lists.{open_at, list_width, open_of}
use Rattle.schema.specs.Layout.{mandatory_at, attribute_set, common_width, attribute_width, class_width, row_width, name_limit, syntax_at, range_lower_at, category_at}
use Rattle.schema.specs.Layout.{defunct_at, single_valued_at, superclass_at, link_at, name_at}
use Rattle.change_read.specs.declared.read.Change.{Change}
use Rattle.change_rows.specs.Rows.{edited_row, is_addition, table_for}
use Rattle.change_read.specs.declared.carried.OpenList.{OpenList}
use Rattle.schema.specs.declared.number.TableId.{TableId}

-- ---- a cell replaced

module _ (at : ℕ) (new row : List ℕ) (fits : at + length new ≤ length row) where
  byte_kept : (i : ℕ) → (i < at) ⊎ (at + length new ≤ i) → get_or (splice at new row) i 0 ≡ get_or row i 0
  byte_kept i (inl l) = splice_at_before at new row fits i l
  byte_kept i (inr l) = splice_at_after at new row fits i l

  part_kept : (b n : ℕ) → (b + n ≤ at) ⊎ (at + length new ≤ b) → part b n (splice at new row) ≡ part b n row
  part_kept b n (inl l) = part_splice_before at new row fits b n l
  part_kept b n (inr l) = part_splice_after at new row fits b n l

  flag_kept : (i : ℕ) → (i < at) ⊎ (at + length new ≤ i) → flag_at i (splice at new row) ≡ flag_at i row
  flag_kept i d = ap (λ (x : ℕ). eqb x 1) (byte_kept i d)

  number_kept : (b n : ℕ) → (b + n ≤ at) ⊎ (at + length new ≤ b) → big_endian n b (splice at new row) ≡ big_endian n b row
  number_kept b n d =
      let z : b + 0 ≡ b = omega arith in
      rw z at (sym (number_in_part n 0 b n (splice at new row) (omega arith))
      ∙ ap (big_endian n 0) (part_kept b n d) ∙ number_in_part n 0 b n row (omega arith))

-- ---- what no change gives another value

-- a cell of what every row begins with
front_fixed : (t : TableId) (at : ℕ) (new row : List ℕ) → at + length new ≤ common_width → length row ≡ row_width t → Fixed t row (splice at new row)
front_fixed Attributes at new row l wide = (
  byte_kept at new row (omega arith) syntax_at (inr (omega arith)),
  flag_kept at new row (omega arith) single_valued_at (inr (omega arith)),
  number_kept at new row (omega arith) link_at 4 (inr (omega arith)),
)
front_fixed Classes at new row l wide = byte_kept at new row (omega arith) category_at (inr (omega arith))

-- the two ends of a range
range_fixed : (new row : List ℕ) → length new ≡ 10 → length row ≡ attribute_width → Fixed Attributes row (splice range_lower_at new row)
range_fixed new row n wide = (
  byte_kept range_lower_at new row (omega arith) syntax_at (inl (omega arith)),
  flag_kept range_lower_at new row (omega arith) single_valued_at (inl (omega arith)),
  number_kept range_lower_at new row (omega arith) link_at 4 (inr (omega arith)),
)

-- an open list: it stands behind all but lists
list_late : (list : OpenList) → mandatory_at + attribute_set ≤ open_at list
list_late Optional = omega arith
list_late Auxiliary = omega arith
list_late Superior = omega arith

module _ (list : OpenList) (new row : List ℕ) (n : length new ≡ list_width list) (wide : length row ≡ class_width) where
  list_fits : open_at list + length new ≤ length row
  list_fits = omega (arith, list_inside list)

  list_fixed : Fixed Classes row (splice (open_at list) new row)
  list_fixed = let late = list_late list in byte_kept (open_at list) new row list_fits category_at (inl (omega arith))

  list_state : is_defunct (splice (open_at list) new row) ≡ is_defunct row
  list_state = let late = list_late list in flag_kept (open_at list) new row list_fits defunct_at (inl (omega arith))

-- how wide the replaced cells are
pub name_wide : (r : List ℕ) → length r ≡ class_width → length (new_name r) ≡ 1 + name_limit
name_wide r l = part_length new_name_at (1 + name_limit) r (omega arith)

pub range_wide : (r : List ℕ) → length r ≡ class_width → length (new_range r) ≡ 10
range_wide r l = part_length new_lower_at 10 r (omega arith)

pub open_wide : (list : OpenList) (row : List ℕ) → length row ≡ class_width → length (open_of list row) ≡ list_width list
open_wide list row wide = part_length (open_at list) (list_width list) row (omega (arith, list_inside list))

pub with_wide : (list : OpenList) (k : ℕ) (row : List ℕ) → length row ≡ class_width → length (with_member k (open_of list row)) ≡ list_width list
with_wide list k row wide = with_length k (open_of list row) ∙ open_wide list row wide

pub without_wide : (list : OpenList) (k : ℕ) (row : List ℕ) → length row ≡ class_width → length (without_member k (open_of list row)) ≡ list_width list
without_wide list k row wide = without_length k (open_of list row) ∙ open_wide list row wide

pub edited_fixed : (change : Change) (r row : List ℕ) → is_addition change ≡ false → length r ≡ class_width → length row ≡ row_width (table_for change)
    → Fixed (table_for change) row (edited_row change r row)
unfolding edited_row
edited_fixed (Add t) r row e l wide = absurd (true≢false e)
edited_fixed SetRange r row e l wide = range_fixed (new_range r) row (range_wide r l) wide
edited_fixed (Rename t) r row e l wide = front_fixed t name_at (new_name r) row (omega (arith, name_wide r l)) wide
edited_fixed (Deactivate t) r row e l wide = front_fixed t defunct_at (1 ∷ []) row (omega arith) wide
edited_fixed (Reactivate t) r row e l wide = front_fixed t defunct_at (0 ∷ []) row (omega arith) wide
edited_fixed AddEntry r row e l wide = list_fixed (list_of r) _ row (with_wide (list_of r) (entry_of r) row wide) wide
edited_fixed RemoveEntry r row e l wide = list_fixed (list_of r) _ row (without_wide (list_of r) (entry_of r) row wide) wide

-- ---- the state: a row that is defunct after the change was so before it, or was deactivated

-- what a deactivation is told by
abbrev pub Deactivates : Change → Type 0
Deactivates (Add t) = ⊥
Deactivates SetRange = ⊥
Deactivates (Rename t) = ⊥
Deactivates (Deactivate t) = Unit {0}
Deactivates (Reactivate t) = ⊥
Deactivates AddEntry = ⊥
Deactivates RemoveEntry = ⊥

-- the byte of the state replaced
state_cell : (t : TableId) (b : ℕ) (row : List ℕ) → length row ≡ row_width t → is_defunct (splice defunct_at (b ∷ []) row) ≡ eqb b 1
state_cell t b row wide =
    let narrow = common_narrow t in
    ap (λ (x : ℕ). eqb x 1) (splice_at_same defunct_at (b ∷ []) row (omega arith) 0 (omega arith))

pub edited_state : (change : Change) (r row : List ℕ) → is_addition change ≡ false → length r ≡ class_width → length row ≡ row_width (table_for change)
    → is_defunct (edited_row change r row) ≡ true → (is_defunct row ≡ true) ⊎ Deactivates change
unfolding edited_row
edited_state (Add t) r row e l wide dead = absurd (true≢false e)
edited_state SetRange r row e l wide dead =
    let n = range_wide r l in inl (sym (flag_kept range_lower_at (new_range r) row (omega arith) defunct_at (inl (omega arith))) ∙ dead)
edited_state (Rename t) r row e l wide dead =
    let n = name_wide r l in
    let narrow = common_narrow t in
    inl (sym (flag_kept name_at (new_name r) row (omega arith) defunct_at (inr (omega arith))) ∙ dead)
edited_state (Deactivate t) r row e l wide dead = inr tt
edited_state (Reactivate t) r row e l wide dead = absurd (false≢true (sym (state_cell t 0 row wide) ∙ dead))
edited_state AddEntry r row e l wide dead = inl (sym (list_state (list_of r) _ row (with_wide (list_of r) (entry_of r) row wide) wide) ∙ dead)
edited_state RemoveEntry r row e l wide dead = inl (sym (list_state (list_of r) _ row (without_wide (list_of r) (entry_of r) row wide) wide) ∙ dead)

-- ---- what the class graph sees of it

-- a cell of what every row begins with
module _ (at : ℕ) (new row : List ℕ) (front : at + length new ≤ common_width) (wide : length row ≡ class_width) where
  front_part : (b n : ℕ) → common_width ≤ b → part b n (splice at new row) ≡ part b n row
  front_part b n l = part_kept at new row (omega arith) b n (inr (omega arith))

  pub front_names : SameNames row (splice at new row)
  front_names = record {
    superclass = byte_kept at new row (omega arith) superclass_at (inr (omega arith));
    fixed_auxiliary = front_part fixed_auxiliary_at class_set (omega arith);
    open_auxiliary = front_part open_auxiliary_at class_set (omega arith);
  }

  pub front_lists : SameLists row (splice at new row)
  front_lists = record {
    mandatory = front_part mandatory_at attribute_set (omega arith);
    fixed_optional = front_part fixed_optional_at attribute_set (omega arith);
    open_optional = front_part open_optional_at attribute_set (omega arith);
  }

-- the open list of possible superiors
module _ (new row : List ℕ) (n : length new ≡ class_set) (wide : length row ≡ class_width) where
  superior_part : (b w : ℕ) → b + w ≤ open_superior_at → part b w (splice open_superior_at new row) ≡ part b w row
  superior_part b w l = part_kept open_superior_at new row (omega arith) b w (inl l)

  pub superior_names : SameNames row (splice open_superior_at new row)
  superior_names = record {
    superclass = byte_kept open_superior_at new row (omega arith) superclass_at (inl (omega arith));
    fixed_auxiliary = superior_part fixed_auxiliary_at class_set (omega arith);
    open_auxiliary = superior_part open_auxiliary_at class_set (omega arith);
  }

  pub superior_lists : SameLists row (splice open_superior_at new row)
  superior_lists = record {
    mandatory = superior_part mandatory_at attribute_set (omega arith);
    fixed_optional = superior_part fixed_optional_at attribute_set (omega arith);
    open_optional = superior_part open_optional_at attribute_set (omega arith);
  }

-- an entry more
module _ (k : ℕ) (row : List ℕ) (wide : length row ≡ class_width) where
  pub auxiliary_more : AuxiliaryMore k row (splice open_auxiliary_at (with_member k (open_auxiliary_of row)) row)
  auxiliary_more =
      let new = with_member k (open_auxiliary_of row) in
      let n : length new ≡ class_set = with_wide Auxiliary k row wide in
      record {
        superclass = byte_kept open_auxiliary_at new row (omega arith) superclass_at (inl (omega arith));
        fixed_auxiliary = part_kept open_auxiliary_at new row (omega arith) fixed_auxiliary_at class_set (inl (omega arith));
        open_auxiliary = part_splice_same open_auxiliary_at new row (omega arith) class_set (sym n);
        lists = record {
          mandatory = part_kept open_auxiliary_at new row (omega arith) mandatory_at attribute_set (inl (omega arith));
          fixed_optional = part_kept open_auxiliary_at new row (omega arith) fixed_optional_at attribute_set (inl (omega arith));
          open_optional = part_kept open_auxiliary_at new row (omega arith) open_optional_at attribute_set (inl (omega arith));
        };
      }

  pub optional_more : OptionalMore k row (splice open_optional_at (with_member k (open_optional_of row)) row)
  optional_more =
      let new = with_member k (open_optional_of row) in
      let n : length new ≡ attribute_set = with_wide Optional k row wide in
      record {
        mandatory = part_kept open_optional_at new row (omega arith) mandatory_at attribute_set (inl (omega arith));
        fixed_optional = part_kept open_optional_at new row (omega arith) fixed_optional_at attribute_set (inl (omega arith));
        open_optional = part_splice_same open_optional_at new row (omega arith) attribute_set (sym n);
        names = record {
          superclass = byte_kept open_optional_at new row (omega arith) superclass_at (inl (omega arith));
          fixed_auxiliary = part_kept open_optional_at new row (omega arith) fixed_auxiliary_at class_set (inr (omega arith));
          open_auxiliary = part_kept open_optional_at new row (omega arith) open_auxiliary_at class_set (inr (omega arith));
        };
      }
