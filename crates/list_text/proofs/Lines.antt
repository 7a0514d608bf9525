-- The line of a class, piece by piece.
use mathlib.Core.Bool.{Bool, true, false, cond}
use mathlib.Core.List.{List, [], ◌∷◌, ◌++◌, append_assoc}
use mathlib.Core.Path.{◌≡◌, refl, sym, ap, ◌∙◌}
use Prim.Native.Nat.{ℕ, ◌+◌, ◌≤◌, ◌<◌}
use native.Mathlib.Omega.{arith}
use lib.Dec.{eqb}
use lib.ListN.{length, length-append}
use Rattle.std.proofs.Common.{append-nil}
use borrow.Author.Tests.{eq-eqb, ne_eqb}
use Rattle.prelude.specs.Concat.{concat_below}
use Rattle.prelude.specs.ConcatLaws.{concat_more, concat_next_within, concat_none}
use Rattle.schema.specs.declared.answer.Answer.{Answer}
use Rattle.schema.specs.Layout.{common_width, name_limit, arc_limit}
use Rattle.schema.specs.Row.{name_length, name_of, arc_count, arc_of}
use Rattle.schema.specs.Store.{Table, table_in}
use Rattle.schema.specs.declared.number.TableId.TheVariants.{Classes}
use Rattle.schema.specs.StoreLaws.{table_row_wide}
use Rattle.list_text.specs.Text.{ascii, decimal, word, text_line}
use Rattle.list_text.specs.TextLaws.{word_length}
use Rattle.list_text.specs.Listing.{Counts, arc_text, identifier_text, class_line, refused_line, ListedClass}

-- ---- text that was put behind other text

module _ (before : List ℕ) where
  pub put_length : (text : List ℕ) {after : List ℕ} → after ≡ before ++ text → length after ≡ length before + length text
  put_length text e = ap length e ∙ length-append before text

  pub put_then : (u v : List ℕ) {mid after : List ℕ} → mid ≡ before ++ u → after ≡ mid ++ v → after ≡ before ++ (u ++ v)
  put_then u v p q = rw (q, p) (simp append_assoc)

  -- by a loop: the first k of n pieces stand there
  module _ (f : ℕ → List ℕ) where
    pub put_none : before ≡ before ++ concat_below 0 f
    put_none = sym (ap (λ (x : List ℕ). before ++ x) (concat_none f) ∙ append-nil before)

    module _ (k : ℕ) {now : List ℕ} (p : now ≡ before ++ concat_below k f) where
      pub put_more : {after : List ℕ} → after ≡ now ++ f k → after ≡ before ++ concat_below (k + 1) f
      put_more q = put_then (concat_below k f) (f k) p q ∙ ap (λ (x : List ℕ). before ++ x) (sym (concat_more f k))

      pub put_room : (n limit : ℕ) → k < n → length before + length (concat_below n f) ≤ limit → length now + length (f k) ≤ limit
      put_room n limit l h = omega (arith, put_length (concat_below k f) p, concat_next_within f k n l)

-- ---- an arc

-- the dot before each but the first
abbrev pub dot : ℕ → List ℕ
dot k = cond (eqb k 0) [] (46 ∷ [])

pub arc_dotted : (row : List ℕ) (k : ℕ) {n : ℕ} → n ≡ arc_of row k → arc_text row k ≡ dot k ++ decimal n
unfolding arc_text
arc_dotted row k e = rw e

pub dot_later : (k : ℕ) → 0 < k → dot k ≡ 46 ∷ []
dot_later k l = rw (ne_eqb k 0 (λ (e : k ≡ 0). omega arith))

pub dot_first : (k : ℕ) → k ≤ 0 → dot k ≡ []
dot_first k l = let z : k ≡ 0 = omega arith in rw (eq-eqb k 0 z)

pub dot_short : (row : List ℕ) (k : ℕ) → length (arc_text row k) ≤ 1 + length (decimal (arc_of row k))
unfolding arc_text
dot_short row k = go (eqb k 0)
  where
    go : (b : Bool) → length (cond b [] (46 ∷ []) ++ decimal (arc_of row k)) ≤ 1 + length (decimal (arc_of row k))
    go true = omega arith
    go false = omega arith

-- ---- a line of five words, of which three are numbers

module _ (c : ℕ) (v i : List ℕ) (m y : ℕ) where
  abbrev five : List ℕ
  five = text_line (decimal c ∷ v ∷ i ∷ decimal m ∷ decimal y ∷ [])

  five_words : five ≡ word (decimal c) 32 ++ (word v 32 ++ (word i 32 ++ (word (decimal m) 32 ++ word (decimal y) 10)))
  unfolding text_line
  five_words = refl

  five_length : length five ≡ (length (decimal c) + 1) + (length v + 1) + (length i + 1) + (length (decimal m) + 1) + (length (decimal y) + 1)
  five_length =
      ap length five_words ∙ simp (length-append, word_length) (omega arith)

  -- as the code puts it: the identifier and the space behind it apart
  pub five_put : (o : List ℕ) {p q r s t u : List ℕ} → p ≡ o ++ word (decimal c) 32 → q ≡ p ++ word v 32 → r ≡ q ++ i → s ≡ r ++ (32 ∷ [])
      → t ≡ s ++ word (decimal m) 32 → u ≡ t ++ word (decimal y) 10 → u ≡ o ++ five
  unfolding word
  five_put o h₁ h₂ h₃ h₄ h₅ h₆ =
      rw (h₆, h₅, h₄, h₃, h₂, h₁, five_words) (simp append_assoc)

-- ---- the line of a class

-- a row that was looked up can be listed
pub record ListedRow (row : List ℕ) : Type 0 where
  pub wide : common_width ≤ length row
  pub name : name_length row ≤ name_limit
  pub arcs : arc_count row ≤ arc_limit

pub listed_row : (classes closure row : List ℕ) (c : ℕ) → ListedClass classes closure c → row ≡ (table_in Classes classes).row c → ListedRow row
listed_row classes closure row c h e = record {
  wide = omega (arith, table_row_wide Classes classes row c h.classes_long h.below e);
  name = rw e h.bounded.name;
  arcs = rw e h.bounded.arcs;
}

module _ (n : Counts) (t : Table) (c : ℕ) where
  pub class_length : length (class_line n t c)
      ≡ (length (decimal c) + 1) + (length (name_of (t.row c)) + 1) + (length (identifier_text (t.row c)) + 1) + (length (decimal (n.must c)) + 1) +
      (length (decimal (n.may c)) + 1)
  unfolding class_line
  class_length = five_length c (name_of (t.row c)) (identifier_text (t.row c)) (n.must c) (n.may c)

  -- by what was read
  pub class_read_lem : {row v : List ℕ} {m y : ℕ} → row ≡ t.row c → v ≡ name_of row → m ≡ n.must c → y ≡ n.may c → class_line n t c
      ≡ five c v (identifier_text row) m y
  unfolding class_line
  class_read_lem e f g h = rw (g, h, f, e)

-- ---- the line of a refusal

module _ (a : Answer) where
  refused_words : refused_line a ≡ word (ascii "refused") 32 ++ (word (decimal a.number) 32 ++ (word (decimal a.table) 32 ++ word (decimal a.place) 10))
  unfolding refused_line text_line
  refused_words = refl

  pub refused_length : length (refused_line a) ≡ 8 + (length (decimal a.number) + 1) + (length (decimal a.table) + 1) + (length (decimal a.place) + 1)
  refused_length = ap length refused_words ∙ simp (length-append, word_length) (unfold ascii in omega arith)

  pub refused_put : {v p q r s : List ℕ} → ascii "refused" ≡ v → p ≡ word v 32 → q ≡ p ++ word (decimal a.number) 32 → r ≡ q ++ word (decimal a.table) 32
      → s ≡ r ++ word (decimal a.place) 10 → s ≡ refused_line a
  refused_put e h₁ h₂ h₃ h₄ =
      rw (h₄, h₃, h₂, h₁, ← e, refused_words) (simp append_assoc)
