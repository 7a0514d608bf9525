-- Each way that reading a field of a sheet can go, from what the code's tests leave.
use Rattle.std.specs.Prelude.{Err, Some}
use mathlib.Core.Bool.{Bool, cond, false, true}
use mathlib.Core.List.{List, ◌++◌}
use mathlib.Core.Path.{◌≡◌, ap, refl, sym, ◌∙◌}
use Prim.Native.Nat.{◌<◌, ℕ, ◌≤◌, ◌-◌}
use native.Mathlib.Decide.{ℕ_discrete}
use native.Mathlib.Omega.{arith}
use lib.Dec.{eqb}
use lib.ListN.{get_or, length, length-append, take}
use lib.Seq.{take_at}
use Rattle.prelude.specs.SaysLaws.{says_eq, says_false, says_true}
use Rattle.prelude.specs.Part.{Bytes, part, zeros}
use Rattle.prelude.specs.PartLaws.{part_zeros, zeros_length}
use Rattle.wire.specs.FieldRead.{FieldRead}
use Rattle.wire.specs.declared.BadField.{BadField}
use Rattle.wire.specs.Wire.{field_at}
use Rattle.wire.specs.WireLaws.{field_bad}
use Rattle.sheet_read.specs.declared.read.SheetError.{SheetError}
use Rattle.schema.specs.declared.number.TableId.TheVariants.{Attributes, Classes}
use Rattle.schema.specs.declared.number.TableId.{TableId}
use Rattle.schema.specs.Store.{count_in, store_of}
use Rattle.schema.specs.Numbers.{limit}
use Rattle.schema.specs.Layout.{row_width, store_length, class_width}
use Rattle.schema.specs.LayoutLaws.{narrow_row}
use Rattle.tables.specs.Filled.{plus_in}
use Rattle.tables.specs.FilledLaws.{store_count, store_plus}
use Rattle.rows_format.specs.declared.format.Format.{Format}
use Rattle.rows_read.specs.RowRead.{RowRead}
use Rattle.rows_read.specs.Reading.{Out, out}
use Rattle.rows_read.specs.ObjectClass.{read_row}
use Rattle.sheet_read.specs.Held.{Lent, HasRoom, Held, room_in, store_with, Steps}
use Rattle.sheet_read.specs.Turn.{Turn}
use Rattle.sheet_read.specs.SheetTag.{SheetTag}
use Rattle.sheet_read.specs.declared.read.SheetTag as declared
use Rattle.sheet_read.specs.SheetTag.{Heading, Row, Unknown}
use Rattle.sheet_read.specs.declared.read.Phase.{Phase}
use Rattle.sheet_read.specs.Turn.{On, Stop}
use Rattle.sheet_read.specs.Room.{Room}
use Rattle.sheet_read.specs.declared.read.Phase.TheVariants.{Start, InRows}
use Rattle.sheet_read.specs.Reading.{Rows, field_step, heading_open, take_heading, is_heading, is_read, plus, position, room_at, room_step, rows_in}
use Rattle.sheet_read.specs.Reading.{rows_with, sheet_tag, step, take_field, take_tagged, row_out, take_table_row, row_turn, Step, rows_open}
use Rattle.sheet_read.specs.ReadingLaws.{more_fit, row_out_wide}
use Rattle.wire.specs.FieldRead as fields
use Rattle.rows_read.specs.RowRead as row
use Rattle.sheet_read.specs.Room as room
use Rattle.sheet_read.specs.declared.read.SheetError.TheVariants as error

-- ---- what the stores hold

module _ {x : Rows} {a c attributes classes : List ℕ} (h : Held x a c attributes classes) where
  -- as many rows as they count
  pub held_count : (t : TableId) → count_in t (store_of t attributes classes) ≡ length (rows_in t x)
  held_count Attributes = ap (count_in Attributes) h.attributes_are
      ∙ store_count Attributes x.attributes a h.attributes_fit.wide h.attributes_fit.few
  held_count Classes = ap (count_in Classes) h.classes_are ∙ store_count Classes x.classes c h.classes_fit.wide h.classes_fit.few

  pub held_few : (t : TableId) → count_in t (store_of t attributes classes) ≤ limit t
  held_few Attributes = omega (arith, held_count Attributes, h.attributes_fit.few)
  held_few Classes = omega (arith, held_count Classes, h.classes_fit.few)

  pub room_same : (tag : SheetTag) → room_in tag attributes classes ≡ room_at tag x
  unfolding room_in room_at
  room_same Heading = refl
  room_same (Row t) = ap (λ (n : ℕ). cond (eqb n (limit t)) (room.Full t) room.Free) (held_count t)
  room_same Unknown = refl

-- the row that a tag announces has room
pub free_room : (tag : SheetTag) (a c : List ℕ) → ((t : TableId) → count_in t (store_of t a c) ≤ limit t) → room_in tag a c ≡ room.Free → HasRoom tag a c
unfolding room_in
free_room tag a c few free t e = go (ℕ_discrete (count_in t (store_of t a c)) (limit t))
  where
    go : Dec (count_in t (store_of t a c) ≡ limit t) → count_in t (store_of t a c) < limit t
    go (yes q) =
        let z : room_in (Row t) a c ≡ room.Full t = rw (says_true (says_eq (count_in t (store_of t a c)) (limit t)) q) in
        let y : room_in (Row t) a c ≡ room.Free = ap (λ (g : SheetTag). room_in g a c) (sym e) ∙ free in
        let no : ◌≡◌ {A = ℕ} 0 1 = cc in
        absurd (omega arith)
    go (no d) = omega (arith, few t, d)

-- ---- a row put into one of the stores

-- the stores, of which that of a table has become another
abbrev pub new_attributes : TableId → List ℕ → List ℕ → List ℕ
new_attributes Attributes new old = new
new_attributes Classes new old = old

abbrev pub new_classes : TableId → List ℕ → List ℕ → List ℕ
new_classes Attributes new old = old
new_classes Classes new old = new

module _ {x : Rows} {a c attributes classes : List ℕ} (h : Held x a c attributes classes) (new : List ℕ) where
  held_plus : (t : TableId) → length new ≡ row_width t → count_in t (store_of t attributes classes) < limit t
      → Held (plus t new x) a c (new_attributes t (plus_in t new attributes) attributes) (new_classes t (plus_in t new classes) classes)
  held_plus Attributes e l =
      let n : count_in Attributes attributes ≡ length x.attributes = held_count h Attributes in
      record {
        attributes_fit = more_fit Attributes x.attributes new h.attributes_fit (λ q. omega arith) e;
        classes_fit = h.classes_fit;
        attributes_are = ap (plus_in Attributes new) h.attributes_are ∙ store_plus Attributes x.attributes new a h.attributes_fit.wide e (omega arith);
        classes_are = h.classes_are;
      }
  held_plus Classes e l =
      let n : count_in Classes classes ≡ length x.classes = held_count h Classes in
      record {
        attributes_fit = h.attributes_fit;
        classes_fit = more_fit Classes x.classes new h.classes_fit (λ q. omega arith) e;
        attributes_are = h.attributes_are;
        classes_are = ap (plus_in Classes new) h.classes_are ∙ store_plus Classes x.classes new c h.classes_fit.wide e (omega arith);
      }

held_same : (t : TableId) {x : Rows} {a c attributes classes : List ℕ} → Held x a c attributes classes
    → Held x a c (new_attributes t attributes attributes) (new_classes t classes classes)
held_same Attributes h = h
held_same Classes h = h

-- a row that was read or not
pub held_with : (t : TableId) {x : Rows} {a c attributes classes : List ℕ} → Held x a c attributes classes → (o : Out)
    → (o ≡ out row.Read o.row → length o.row ≡ row_width t)
    → count_in t (store_of t attributes classes) < limit t
    → Held (rows_with t o x) a c (new_attributes t (store_with t o attributes) attributes) (new_classes t (store_with t o classes) classes)
unfolding rows_with store_with
held_with t {x} {a} {c} {attributes} {classes} h o wide l = go o.answer refl
  where
    go : (r : RowRead) → o.answer ≡ r
        → Held (cond (is_read r) (plus t o.row x) x) a c (new_attributes t (cond (is_read r) (plus_in t o.row attributes) attributes) attributes)
        (new_classes t (cond (is_read r) (plus_in t o.row classes) classes) classes)
    go row.Read e = held_plus h o.row t (wide (λ i. record { answer = e i; row = o.row })) l
    go (Err bad) e = held_same t h

-- ---- the heading

module _ (s : List ℕ) (at start stop : ℕ) (phase : Phase) where
  pub heading_late : {t : TableId} → phase ≡ InRows t → Stop (error.Bad at) ≡ take_heading s at start stop phase
  unfolding take_heading heading_open position
  heading_late {t} e = rw e (go t)
    where
      go : (t : TableId) → Stop (error.Bad at) ≡ take_heading s at start stop (InRows t)
      go Attributes = refl
      go Classes = refl

  pub heading_yes : phase ≡ Start → is_heading s start stop ≡ true → On stop (InRows Attributes) false ≡ take_heading s at start stop phase
  unfolding take_heading heading_open position
  heading_yes e f = rw (e, f)

  pub heading_no : phase ≡ Start → is_heading s start stop ≡ false → Stop (error.Bad at) ≡ take_heading s at start stop phase
  unfolding take_heading heading_open position
  heading_no e f = rw (e, f)

-- ---- a field of the sheet

module _ (s : List ℕ) (at : ℕ) (phase : Phase) (missing : Bool) {x : Rows} {a c attributes classes : List ℕ} (h : Held x a c attributes classes)
    (tag : SheetTag)
    (is : tag ≡ sheet_tag (get_or s at 0)) (r : Room) (found : r ≡ room_in tag attributes classes) where
  room_found : room_at (sheet_tag (get_or s at 0)) x ≡ r
  room_found = ap (λ (g : SheetTag). room_at g x) (sym is) ∙ sym (room_same h tag) ∙ sym found

  -- no room: reading stops
  pub step_full : (error : SheetError) → r ≡ Err error → step (Stop error) x ≡ take_field s at phase missing x
  unfolding take_field room_step
  step_full error e = ap (λ (q : Room). room_step q x (field_step (field_at s at (length s)) s at phase missing x)) (sym (room_found ∙ e))

  -- room: it goes by the field
  pub step_field : r ≡ room.Free → field_step (field_at s at (length s)) s at phase missing x ≡ take_field s at phase missing x
  unfolding take_field room_step
  step_field e = rw (room_found, e)

  pub step_whole : r ≡ room.Free → (f : FieldRead) (b start stop : ℕ) → f ≡ field_at s at (length s) → f ≡ fields.Field b start stop
      → take_tagged (sheet_tag b) s at phase missing start stop x ≡ take_field s at phase missing x
  unfolding field_step
  step_whole e f b start stop p q = ap (λ (g : FieldRead). field_step g s at phase missing x) (sym q ∙ p) ∙ step_field e

  pub step_cut : r ≡ room.Free → (f : FieldRead) (bad : BadField) → f ≡ field_at s at (length s) → f ≡ Err bad
      → step (Stop (error.Bad bad.at)) x ≡ take_field s at phase missing x
  unfolding field_step
  step_cut e f bad p q =
      ap (λ (n : ℕ). step (Stop (error.Bad n)) x) (field_bad s at (length s) bad (sym p ∙ q))
      ∙ ap (λ (g : FieldRead). field_step g s at phase missing x) (sym q ∙ p) ∙ step_field e

  -- the end: the code has asked before, and does not come here
  pub step_end : r ≡ room.Free → (f : FieldRead) → f ≡ field_at s at (length s) → f ≡ fields.End → step (Stop (error.Bad at)) x ≡ take_field s at phase missing x
  unfolding field_step
  step_end e f p q = ap (λ (g : FieldRead). field_step g s at phase missing x) (sym q ∙ p) ∙ step_field e

-- ---- room

-- what a tag stands for, by the two parts of a pattern
pub tag_told : {tag : SheetTag} {y z : declared.SheetTag} → tag ≡ Some y → y ≡ z → tag ≡ Some z
tag_told p q = p ∙ ap Some q

-- the room that a row of a table has
module _ (t : TableId) (a c : List ℕ) (tag : SheetTag) (is : tag ≡ Row t) (n m : ℕ) (counted : n ≡ count_in t (store_of t a c)) (limits : m ≡ limit t) where
  pub room_none : n ≡ m → room.Full t ≡ room_in tag a c
  unfolding room_in
  room_none e = rw (is, says_true (says_eq (count_in t (store_of t a c)) (limit t)) (sym counted ∙ e ∙ limits))

  pub room_left : ¬ (n ≡ m) → room.Free ≡ room_in tag a c
  unfolding room_in
  room_left d = rw (is, says_false (says_eq (count_in t (store_of t a c)) (limit t)) (λ e. d (counted ∙ e ∙ sym limits)))

-- ---- a row of a sheet, by its table

pub took_row : (t : TableId) (s : List ℕ) (start stop : ℕ) (missing : Bool) (bytes : Bytes s) → stop ≤ length s → {attributes classes : List ℕ}
    → count_in t (store_of t attributes classes) < limit t
    → (turn : Turn) → turn ≡ row_turn t stop missing (row_out t s start stop).answer → {attributes' classes' : List ℕ}
    → attributes' ≡ new_attributes t (store_with t (row_out t s start stop) attributes) attributes → classes'
    ≡ new_classes t (store_with t (row_out t s start stop) classes) classes
    → Steps (take_table_row t s start stop missing) attributes classes turn attributes' classes'
unfolding take_table_row
took_row t s start stop missing bytes within room turn e p q x a c h =
    record { went = e; held = rw (p, q) (held_with t h (row_out t s start stop) (row_out_wide s bytes t start stop within) room) }

pub lent_table : {a c : List ℕ} → Lent a c → (t : TableId) → store_length t ≤ length (store_of t a c)
lent_table h Attributes = h.attributes
lent_table h Classes = h.classes

-- ---- the front of a scratch row

module _ (t : TableId) (w : ℕ) (scratch : List ℕ) (e : w ≡ row_width t) (z : scratch ≡ zeros class_width) where
  pub front_within : w ≤ length scratch
  front_within = omega (arith, e, narrow_row t, ap length z, zeros_length class_width)

  pub front_zeros : take (w - 0) scratch ≡ zeros (row_width t)
  front_zeros =
      let m : w - 0 ≡ row_width t = omega (arith, e) in
      rw (m, z) (unfold part in (part_zeros 0 (row_width t) class_width (omega (arith, narrow_row t))))

  -- what was read into it
  module _ (l : List ℕ) (kept : length l ≡ length (take (w - 0) scratch)) where
    pub front_long : length l ≡ w
    front_long = kept ∙ ap length front_zeros ∙ zeros_length (row_width t) ∙ sym e

    pub front_back : (rest : List ℕ) → take (w - 0) (l ++ rest) ≡ l
    front_back rest = let m : w - 0 ≡ w = omega arith in rw m (take_at l rest w front_long)

    pub front_room : (rest : List ℕ) → w ≤ length (l ++ rest)
    front_room rest = omega (arith, length-append l rest, front_long)

-- the room of a table that is known
pub table_room : {a c : List ℕ} (t u : TableId) → t ≡ u → Lent a c → count_in t (store_of t a c) < limit t → (store_length t ≤ length (store_of u a c))
    × (count_in t (store_of u a c) < limit t)
table_room {a} {c} t u e h l = rw (← e) (lent_table h t, l)

-- a row read into the front of a scratch row
module _ (t : TableId) (s : List ℕ) (start stop w : ℕ) (scratch : List ℕ) (e : w ≡ row_width t) (z : scratch ≡ zeros class_width) (r : RowRead) (l : List ℕ)
    (answered : r ≡ (read_row (Format.Row t) s start stop (take (w - 0) scratch)).answer)
    (stored : l ≡ (read_row (Format.Row t) s start stop (take (w - 0) scratch)).row) where
  is_out : read_row (Format.Row t) s start stop (take (w - 0) scratch) ≡ row_out t s start stop
  is_out = ap (read_row (Format.Row t) s start stop) (front_zeros t w scratch e z)

  answer_is : r ≡ (row_out t s start stop).answer
  answer_is = answered ∙ ap (λ (o : Out). o.answer) is_out

  row_is : l ≡ (row_out t s start stop).row
  row_is = stored ∙ ap (λ (o : Out). o.row) is_out

  pub read_in_yes : r ≡ row.Read → (store new store' : List ℕ) → new ≡ l → store' ≡ plus_in t new store → (r ≡ (row_out t s start stop).answer)
      × (store' ≡ store_with t (row_out t s start stop) store)
  unfolding store_with
  read_in_yes f store new store' p q =
      (answer_is, q ∙ ap (λ (x : List ℕ). plus_in t x store) (p ∙ row_is) ∙ sym (rw (← answer_is, f)))

  pub read_in_no : (bad : BadField) → r ≡ Err bad → (store : List ℕ) → (r ≡ (row_out t s start stop).answer)
      × (store ≡ store_with t (row_out t s start stop) store)
  unfolding store_with
  read_in_no bad f store = (answer_is, sym (rw (← answer_is, f)))

-- the turn by what reading a row comes to
module _ (t : TableId) (stop : ℕ) (missing : Bool) (r : RowRead) where
  pub row_on : r ≡ row.Read → On stop (InRows t) missing ≡ row_turn t stop missing r
  unfolding row_turn
  row_on e = rw e

  pub row_stop : (bad : BadField) → r ≡ Err bad → Stop (error.Bad bad.at) ≡ row_turn t stop missing r
  unfolding row_turn
  row_stop bad e = rw e

-- the table is known
pub as_attributes : (t : TableId) → t ≡ Attributes → (new old : List ℕ) → new ≡ new_attributes t new old
as_attributes t e new old = rw e

pub as_attributes_kept : (t : TableId) → t ≡ Attributes → (new old : List ℕ) → old ≡ new_classes t new old
as_attributes_kept t e new old = rw e

pub as_classes : (t : TableId) → t ≡ Classes → (new old : List ℕ) → new ≡ new_classes t new old
as_classes t e new old = rw e

pub as_classes_kept : (t : TableId) → t ≡ Classes → (new old : List ℕ) → old ≡ new_attributes t new old
as_classes_kept t e new old = rw e

-- ---- a step of the code, from an equation of steps

pub as_step : (f : Rows → Step) (turn : Turn) (attributes classes : List ℕ)
    → ((x : Rows) (a c : List ℕ) → Held x a c attributes classes → step turn x ≡ f x) → Steps f attributes classes turn attributes classes
as_step f turn attributes classes e x a c h = rw (← e x a c h) (record { went = refl; held = h })

pub same_step : (f g : Rows → Step) {turn : Turn} {attributes classes attributes' classes' : List ℕ}
    → ((x : Rows) (a c : List ℕ) → Held x a c attributes classes → f x ≡ g x)
    → Steps f attributes classes turn attributes' classes' → Steps g attributes classes turn attributes' classes'
same_step f g e h x a c k = rw (← e x a c k) (h x a c k)

-- ---- by the tag

module _ (s : List ℕ) (at : ℕ) (phase : Phase) (missing : Bool) (start stop : ℕ) (tag : SheetTag) (x : Rows) where
  pub tagged_heading : tag ≡ Heading → step (take_heading s at start stop phase) x ≡ take_tagged tag s at phase missing start stop x
  unfolding take_tagged
  tagged_heading e = rw e

  pub tagged_row : (t : TableId) → tag ≡ Row t → rows_open phase t ≡ true
      → take_table_row t s start stop missing x ≡ take_tagged tag s at phase missing start stop x
  unfolding take_tagged
  tagged_row t e o = rw (e, o)

  pub tagged_late : (t : TableId) → tag ≡ Row t → rows_open phase t ≡ false → step (Stop (error.Bad at)) x ≡ take_tagged tag s at phase missing start stop x
  unfolding take_tagged
  tagged_late t e o = rw (e, o)

  pub tagged_unknown : tag ≡ Unknown → step (Stop (error.Bad at)) x ≡ take_tagged tag s at phase missing start stop x
  unfolding take_tagged
  tagged_unknown e = rw e
