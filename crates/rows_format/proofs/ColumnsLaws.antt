-- Laws of columns and tables. Nothing here goes by encodings: a field that is taken and a field that is absent each leave a well-formed cell that tells
-- which it was, and a well-formed cell is one of the two.
use Rattle.std.specs.Prelude.{◌≡◌, refl, true, false, not, List, [], ◌∷◌, ◌++◌, ℕ, zero, suc, ◌+◌, ◌≤◌, ◌<◌, length, get_or, drop}
use Rattle.std.proofs.Common.{sym, ap, ◌∙◌, true≢false, arith, length-append, length-drop, drop_at}
use Rattle.std.proofs.lemmas.Bool.{false≢true}
use Rattle.prelude.specs.BytesLaws.{drop_bytes}
use Rattle.prelude.specs.SaysLaws.{says_and, says_eq, says_false, says_test}
use Rattle.prelude.specs.Part.{part, splice, zeros, Bytes}
use Rattle.prelude.specs.PartLaws.{part_length, zeros_at, zeros_zero, zero_zeros}
use Rattle.prelude.specs.SpliceLaws.{part_splice_before, part_splice_same, part_splice_after}
use Rattle.rows_format.specs.Encodings.{accepts, image, room, stored, sound}
use Rattle.rows_format.specs.EncodingsLaws.{room_small, Accepts, says_accepts, Holds, says_holds, image_length, stored_image}
use Rattle.rows_format.specs.EncodingsLaws.{image_holds, accepts_stored, image_stored, stored_short, stored_bytes, image_nonzero}
use Rattle.wire.specs.Wire.{field_bytes}
use Rattle.rows_format.specs.Columns.{lead, mark, required, possible, column_width, takes, cell_of, cell_at, has_value, value_of, well_formed_cell}
use Rattle.rows_format.specs.Columns.{well_formed_by, field_of, clear, sound_column, Sound, laid, Fits}
use Rattle.rows_format.specs.declared.column.Encoding.{Encoding}
use Rattle.rows_format.specs.declared.column.Presence.{Presence}
use Rattle.rows_format.specs.declared.column.Presence.TheVariants.{Required, Optional, Marked, Never}
use Rattle.rows_format.specs.declared.column.Column.{Column}

-- ---- a column

pub sound_column_lem : (r : Column) → sound_column r ≡ true → Sound r
unfolding sound_column
sound_column_lem r h = let s = (says_and (says_test (sound r.encoding)) (says_test (clear r.presence r.encoding))).holds h in record
    { encoding = s.0; absent = s.1 }

mark_lead : (p : Presence) → length (lead p) ≡ mark p
unfolding lead mark
mark_lead Required = refl
mark_lead Optional = refl
mark_lead Marked = refl
mark_lead Never = refl

mark_le : (p : Presence) → mark p ≤ 1
unfolding mark
mark_le Required = omega arith
mark_le Optional = omega arith
mark_le Marked = omega arith
mark_le Never = omega arith

pub width_small : (r : Column) → Sound r → column_width r ≤ 255
unfolding column_width
width_small r s = omega (arith, room_small r.encoding s.encoding, mark_le r.presence)

-- the cell of a column in a row that is long enough
pub cell_at_length : (r : Column) (row : List ℕ) → Fits (length row) r → length (cell_at r row) ≡ column_width r
unfolding cell_at
cell_at_length r row f = part_length r.at (column_width r) row f.within

pub takes_accepts : (r : Column) (v : List ℕ) → takes r v ≡ true → Accepts r.encoding v
unfolding takes
takes_accepts r v h = ((says_and (says_test (possible r.presence)) (says_accepts r.encoding v)).holds h).1

pub takes_bool : (r : Column) (v : List ℕ) → takes r v ≡ true → accepts r.encoding v ≡ true
takes_bool r v h = (says_accepts r.encoding v).passes (takes_accepts r v h)

-- a value that is taken
pub record TakenCell (r : Column) (v cell : List ℕ) : Type 0 where
  pub long : length cell ≡ column_width r
  pub has : has_value r.presence cell ≡ true
  pub value : value_of r cell ≡ v
  pub formed : well_formed_cell r cell ≡ true

behind_lead : (r : Column) (v : List ℕ) → drop (mark r.presence) (cell_of r v) ≡ image r.encoding v
unfolding cell_of
behind_lead r v = drop_at (lead r.presence) (image r.encoding v) (mark r.presence) (mark_lead r.presence)

has_value_lem : (p : Presence) (encoding : Encoding) (v : List ℕ) → possible p ≡ true → clear p encoding ≡ true → Accepts encoding v
    → has_value p (lead p ++ image encoding v) ≡ true
unfolding has_value possible clear lead
has_value_lem Required encoding v p c a = refl
has_value_lem Optional encoding v p c a = ap not (image_nonzero encoding v c a)
has_value_lem Marked encoding v p c a = refl
has_value_lem Never encoding v p c a = absurd (false≢true p)

cell_has : (r : Column) (v : List ℕ) → possible r.presence ≡ true → clear r.presence r.encoding ≡ true → Accepts r.encoding v
    → has_value r.presence (cell_of r v) ≡ true
unfolding cell_of
cell_has r v p c a = has_value_lem r.presence r.encoding v p c a

pub cell_length : (r : Column) (v : List ℕ) → Accepts r.encoding v → length (cell_of r v) ≡ column_width r
unfolding cell_of column_width
cell_length r v a = length-append (lead r.presence) (image r.encoding v) ∙ omega (arith, mark_lead r.presence, image_length r.encoding v a)

pub taken_formed : (r : Column) (v : List ℕ) → Sound r → takes r v ≡ true → (has_value r.presence (cell_of r v) ≡ true)
    × (well_formed_cell r (cell_of r v) ≡ true)
unfolding takes well_formed_cell
taken_formed r v s h =
    let t = (says_and (says_test (possible r.presence)) (says_accepts r.encoding v)).holds h in
    let has : has_value r.presence (cell_of r v) ≡ true = cell_has r v t.0 s.absent t.1 in
    (has, rw (has, behind_lead r v) ((says_holds r.encoding (image r.encoding v)).passes (image_holds r.encoding v t.1)))

pub taken_cell : (r : Column) (v : List ℕ) → Sound r → Bytes v → takes r v ≡ true → TakenCell r v (cell_of r v)
unfolding value_of
taken_cell r v s b h =
    let a : Accepts r.encoding v = takes_accepts r v h in
    let f = taken_formed r v s h in
    record { long = cell_length r v a; has = f.0; value = rw (behind_lead r v) (stored_image r.encoding v b a); formed = f.1 }

-- the cell of an absent field
pub absent_value : (p : Presence) (n : ℕ) → required p ≡ false → has_value p (zeros n) ≡ false
unfolding has_value required
absent_value Required n h = absurd (true≢false h)
absent_value Optional n h = ap not (zeros_zero n)
absent_value Marked n h = says_false (says_eq (get_or (zeros n) 0 0) 1) (λ e. omega (arith, zeros_at n 0))
absent_value Never n h = refl

pub absent_formed : (r : Column) (n : ℕ) → required r.presence ≡ false → well_formed_cell r (zeros n) ≡ true
unfolding well_formed_cell
absent_formed r n h = rw (absent_value r.presence n h) (zeros_zero n)

-- ---- a field that is written

pub field_none : (r : Column) (row : List ℕ) → has_value r.presence (cell_at r row) ≡ false → field_of r row ≡ []
unfolding field_of
field_none r row h = rw h

pub field_some : (r : Column) (row : List ℕ) → has_value r.presence (cell_at r row) ≡ true → field_of r row ≡ field_bytes r.tag (value_of r (cell_at r row))
unfolding field_of
field_some r row h = rw h

-- a well-formed cell with a value
pub record ValueCell (r : Column) (cell : List ℕ) : Type 0 where
  pub taken : takes r (value_of r cell) ≡ true
  pub cell_is : cell_of r (value_of r cell) ≡ cell
  pub bytes : Bytes (value_of r cell)
  pub short : length (value_of r cell) < 65536

has_possible : (p : Presence) (cell : List ℕ) → has_value p cell ≡ true → possible p ≡ true
unfolding has_value possible
has_possible Required cell h = refl
has_possible Optional cell h = refl
has_possible Marked cell h = refl
has_possible Never cell h = h

lead_back : (p : Presence) (cell : List ℕ) → has_value p cell ≡ true → mark p ≤ length cell → lead p ++ drop (mark p) cell ≡ cell
unfolding has_value lead mark
lead_back Required cell h l = refl
lead_back Optional cell h l = refl
lead_back Marked [] h l = absurd (omega arith)
lead_back Marked (x ∷ cell) h l = ap (λ (y : ℕ). y ∷ cell) (sym ((says_eq x 1).holds h))
lead_back Never cell h l = refl

pub value_cell : (r : Column) (cell : List ℕ) → Sound r → Bytes cell → length cell ≡ column_width r → well_formed_cell r cell ≡ true
    → has_value r.presence cell ≡ true → ValueCell r cell
unfolding well_formed_cell takes value_of cell_of column_width
value_cell r cell s b l f h =
    let rest : List ℕ = drop (mark r.presence) cell in
    let holding : Holds r.encoding rest = (says_holds r.encoding rest).holds (rw h at f) in
    let rb : Bytes rest = drop_bytes (mark r.presence) cell b in
    let rl : length rest ≡ room r.encoding = simp length-drop (omega arith) in
    record {
      taken = (says_and (says_test (possible r.presence)) (says_accepts r.encoding (stored r.encoding rest))).passes
          (has_possible r.presence cell h, accepts_stored rest rb r.encoding s.encoding rl holding);
      cell_is = ap (λ (x : List ℕ). lead r.presence ++ x) (image_stored rest rb r.encoding s.encoding rl holding)
          ∙ lead_back r.presence cell h (omega arith);
      bytes = stored_bytes rest rb r.encoding;
      short = stored_short r.encoding rest s.encoding rl;
    }

-- a well-formed cell without one
no_value : (p : Presence) (cell : List ℕ) → has_value p cell ≡ false → required p ≡ false
unfolding has_value required
no_value Required cell h = h
no_value Optional cell h = refl
no_value Marked cell h = refl
no_value Never cell h = refl

pub blank_cell : (r : Column) (cell : List ℕ) → length cell ≡ column_width r → well_formed_cell r cell ≡ true → has_value r.presence cell ≡ false
    → (cell ≡ zeros (column_width r)) × (required r.presence ≡ false)
unfolding well_formed_cell
blank_cell r cell l f h = (zero_zeros (column_width r) cell l (rw h at f), no_value r.presence cell h)

-- ---- a table

pub record Laid (r : Column) (rs : List Column) (o n : ℕ) : Type 0 where
  pub place : r.at ≡ o
  pub sound : Sound r
  pub rest : laid rs (o + column_width r) n ≡ true

pub laid_cons : (r : Column) (rs : List Column) (o n : ℕ) → laid (r ∷ rs) o n ≡ true → Laid r rs o n
unfolding laid
laid_cons r rs o n h =
    let t = (says_and (says_eq r.at o) (says_and (says_test (sound_column r)) (says_test (laid rs (o + column_width r) n)))).holds h in
    record { place = t.0; sound = sound_column_lem r t.1.0; rest = t.1.1 }

pub laid_end : (o n : ℕ) → laid [] o n ≡ true → o ≡ n
unfolding laid
laid_end o n h = (says_eq o n).holds h

pub laid_le : (columns : List Column) (o n : ℕ) → laid columns o n ≡ true → o ≤ n
laid_le [] o n h = omega (arith, laid_end o n h)
laid_le (r ∷ rs) o n h = omega (arith, laid_le rs (o + column_width r) n (laid_cons r rs o n h).rest)

-- column i of it
pub laid_at : (columns : List Column) (none : Column) (o n i : ℕ) → laid columns o n ≡ true → i < length columns → Fits n (get_or columns i none)
laid_at [] none o n i h l = absurd (omega arith)
laid_at (r ∷ rs) none o n zero h l =
    let t = laid_cons r rs o n h in
    record { within = omega (arith, t.place, laid_le rs (o + column_width r) n t.rest); sound = t.sound }
laid_at (r ∷ rs) none o n (suc i) h l = laid_at rs none (o + column_width r) n i (laid_cons r rs o n h).rest (omega arith)

pub laid_from : (columns : List Column) (none : Column) (o n i : ℕ) → laid columns o n ≡ true → i < length columns → o ≤ (get_or columns i none).at
laid_from [] none o n i h l = absurd (omega arith)
laid_from (r ∷ rs) none o n zero h l = omega (arith, (laid_cons r rs o n h).place)
laid_from (r ∷ rs) none o n (suc i) h l = omega (arith, laid_from rs none (o + column_width r) n i (laid_cons r rs o n h).rest (omega arith))

-- and is well-formed in a well-formed row
pub formed_cons : (r : Column) (rs : List Column) (row : List ℕ) → well_formed_by (r ∷ rs) row ≡ true → (well_formed_cell r (cell_at r row) ≡ true)
    × (well_formed_by rs row ≡ true)
unfolding well_formed_by
formed_cons r rs row h = (says_and (says_test (well_formed_cell r (cell_at r row))) (says_test (well_formed_by rs row))).holds h

pub formed_both : (r : Column) (rs : List Column) (row : List ℕ) → well_formed_cell r (cell_at r row) ≡ true → well_formed_by rs row ≡ true
    → well_formed_by (r ∷ rs) row ≡ true
unfolding well_formed_by
formed_both r rs row h k = rw (h, k)

pub formed_at : (columns : List Column) (none : Column) (row : List ℕ) (i : ℕ) → well_formed_by columns row ≡ true → i < length columns
    → well_formed_cell (get_or columns i none) (cell_at (get_or columns i none) row) ≡ true
formed_at [] none row i h l = absurd (omega arith)
formed_at (r ∷ rs) none row zero h l = (formed_cons r rs row h).0
formed_at (r ∷ rs) none row (suc i) h l = formed_at rs none row i (formed_cons r rs row h).1 (omega arith)

-- rows that agree from o on
pub formed_from : (columns : List Column) (o n : ℕ) (row row' : List ℕ) → laid columns o n ≡ true → ((b m : ℕ) → o ≤ b → part b m row ≡ part b m row')
    → well_formed_by columns row ≡ true → well_formed_by columns row' ≡ true
unfolding well_formed_by cell_at
formed_from [] o n row row' h e f = refl
formed_from (r ∷ rs) o n row row' h e f =
    let t = laid_cons r rs o n h in
    let w = formed_cons r rs row f in
    formed_both r rs row' (rw (e r.at (column_width r) (omega (arith, t.place))) at w.0)
    (formed_from rs (o + column_width r) n row row' t.rest (λ b m l. e b m (omega arith)) w.1)

-- ---- one cell replaced

cell_same : (r : Column) (new row : List ℕ) → r.at + length new ≤ length row → length new ≡ column_width r → cell_at r (splice r.at new row) ≡ new
unfolding cell_at
cell_same r new row h k = part_splice_same r.at new row h (column_width r) (sym k)

cell_before : (r : Column) (at : ℕ) (new row : List ℕ) → at + length new ≤ length row → r.at + column_width r ≤ at → cell_at r (splice at new row)
    ≡ cell_at r row
unfolding cell_at
cell_before r at new row h k = part_splice_before at new row h r.at (column_width r) k

-- a row stays well-formed where the cell of a column becomes another well-formed cell
pub cell_replaced : (columns : List Column) (none : Column) (o n i : ℕ) (new row : List ℕ) → laid columns o n ≡ true → n ≤ length row → i < length columns
    → length new ≡ column_width (get_or columns i none) → well_formed_cell (get_or columns i none) new ≡ true → well_formed_by columns row ≡ true
    → well_formed_by columns (splice (get_or columns i none).at new row) ≡ true
cell_replaced [] none o n i new row h nl l k w f = absurd (omega arith)
cell_replaced (r ∷ rs) none o n zero new row h nl l k w f =
    let t = laid_cons r rs o n h in
    let fits : r.at + length new ≤ length row = omega (arith, t.place, laid_le rs (o + column_width r) n t.rest) in
    formed_both r rs (splice r.at new row)
    (rw (cell_same r new row fits k) w)
    (formed_from rs (o + column_width r) n row (splice r.at new row) t.rest
    (λ b m g. sym (part_splice_after r.at new row fits b m (omega (arith, t.place)))) (formed_cons r rs row f).1)
cell_replaced (r ∷ rs) none o n (suc i) new row h nl l k w f =
    let t = laid_cons r rs o n h in
    let q : Column = get_or rs i none in
    let at : Fits n q = laid_at rs none (o + column_width r) n i t.rest (omega arith) in
    let past : o + column_width r ≤ q.at = laid_from rs none (o + column_width r) n i t.rest (omega arith) in
    let fits : q.at + length new ≤ length row = omega (arith, at.within) in
    formed_both r rs (splice q.at new row)
    (rw (cell_before r q.at new row fits (omega (arith, t.place))) (formed_cons r rs row f).0)
    (cell_replaced rs none (o + column_width r) n i new row t.rest nl (omega arith) k w (formed_cons r rs row f).1)
