-- The listing. Document 01: "The program lists a sheet's classes, defunct too .. "must" is the number of attributes in the kept mandatory set, "may" in the
-- optional one:
--     no name oid must may
--     0 top 2.5.6.0 0 0
-- A refused sheet prints one line, single spaces: `refused`, number, table, place."
use Rattle.std.specs.Prelude.{cond, ◌↔◌, ◌≡◌, ℕ, ◌+◌, ◌*◌, ◌≤◌, ◌<◌, eqb, ltb, length}
use mathlib.Core.List.{List, [], ◌∷◌, ◌++◌, Memᴰ}
use Rattle.prelude.specs.Part.{part}
use Rattle.prelude.specs.Concat.{concat_below}
use Rattle.sets.specs.Sets.{member_count, count_below, Rises}
use Rattle.schema.specs.declared.answer.Answer.{Answer}
use Rattle.schema.specs.Numbers.{class_limit, attribute_limit}
use Rattle.schema.specs.Layout.{name_limit, arc_limit, attribute_set, demanded_at, allowed_at, closure_length, store_length}
use Rattle.schema.specs.Row.{name_of, arc_count, arc_of}
use Rattle.schema.specs.Store.{Table, closure_at, Result, table_in}
use Rattle.schema.specs.declared.number.TableId.TheVariants.{Classes}
use Rattle.tables.specs.Shaped.{Bounded}
use Rattle.tables.specs.Filled.{empty_stores}
use Rattle.graph.specs.Graph.{Collects, lists_mandatory, lists_optional, demands, allows, inherits}
use Rattle.keeper.specs.Load.{load}
use Rattle.list_text.specs.Text.{ascii, decimal, text_line}

-- ---- one class

-- "must" and "may" of each class
pub record Counts : Type 0 where
  pub must : ℕ → ℕ
  pub may : ℕ → ℕ

-- how many attributes the kept set of class c has that stands at a place of its row in the closure store
unfoldable pub kept_count : ℕ → List ℕ → ℕ → ℕ
kept_count at closure c = member_count (part at attribute_set (closure_at closure c))

-- "must" is the number "in the kept mandatory set", "may" that "in the optional one"
abbrev pub kept_counts : List ℕ → Counts
kept_counts closure = record { must = kept_count demanded_at closure; may = kept_count allowed_at closure }

-- the same from the rows alone: of the sets as they are defined
abbrev pub defined_counts : Table → Counts
defined_counts t = record { must = λ c. count_below attribute_limit (demands t c); may = λ c. count_below attribute_limit (allows t c) }

-- arc k of an object identifier, with a dot (46) before each but the first
unfoldable pub arc_text : List ℕ → ℕ → List ℕ
arc_text row k = cond (eqb k 0) [] (46 ∷ []) ++ decimal (arc_of row k)

unfoldable pub identifier_text : List ℕ → List ℕ
identifier_text row = concat_below (arc_count row) (arc_text row)

-- "no name oid must may": class c by its row and its counts
unfoldable pub class_line : Counts → Table → ℕ → List ℕ
class_line n t c = text_line (decimal c ∷ name_of (t.row c) ∷ identifier_text (t.row c) ∷ decimal (n.must c) ∷ decimal (n.may c) ∷ [])

-- ---- the listing

unfoldable pub head_line : List ℕ
head_line = ascii "no name oid must may\n"

-- every class in the order of the numbers, "defunct too"
unfoldable pub class_lines : Counts → Table → List ℕ
class_lines n t = concat_below t.count (class_line n t)

unfoldable pub listing : Counts → Table → List ℕ
listing n t = head_line ++ class_lines n t

-- ---- what the program prints

-- "`refused`, number, table, place"
unfoldable pub refused_line : Answer → List ℕ
refused_line a = text_line (ascii "refused" ∷ decimal a.number ∷ decimal a.table ∷ decimal a.place ∷ [])

-- "(at most 32,768 bytes, else `too long`)"
unfoldable pub too_long : List ℕ
too_long = ascii "too long\n"

abbrev pub sheet_limit : ℕ
sheet_limit = 32768

-- the listing of what a load left in the stores, or the line for its refusal
unfoldable pub loaded_text : Result → List ℕ
loaded_text r = cond (eqb r.answer.number 0) (listing (kept_counts r.left.closure) (table_in Classes r.left.classes)) (refused_line r.answer)

-- the text for a sheet, loaded into empty stores: "Load never looks at what stood in the stores"
unfoldable pub listed : List ℕ → List ℕ
listed sheet = cond (ltb sheet_limit (length sheet)) too_long (loaded_text (load sheet empty_stores))

-- ---- the listing of a table, with quantifiers

-- n is the number of those below the limit of which P holds: a list has each of them once, and no others, and is n long
pub record CountOf (limit : ℕ) (P : ℕ → Type 0) (n : ℕ) : Type 0 where
  pub members : List ℕ
  pub rises : Rises 0 members
  pub has : (b : ℕ) → Memᴰ b members ↔ ((b < limit) × P b)
  pub count : n ≡ length members

-- text is the listing of a table: in the line of each class stand the numbers of attributes that some class reached lists as mandatory and as optional
pub record ListingOf (t : Table) (text : List ℕ) : Type 0 where
  pub counts : Counts
  pub demanded : (c : ℕ) → CountOf attribute_limit (Collects t.count (inherits t) (lists_mandatory t) c) (counts.must c)
  pub allowed : (c : ℕ) → CountOf attribute_limit (Collects t.count (inherits t) (lists_optional t) c) (counts.may c)
  pub is : text ≡ listing counts t

-- ---- what the code asks

-- the head line; the longest line of a class: 3 digits, the longest name, arcs of at most 10 digits and a dot, 3 and 3 digits, a byte behind each of the five
abbrev pub head_length : ℕ
head_length = 21

abbrev pub line_length : ℕ
line_length = 3 + name_limit + 11 * arc_limit + 3 + 3 + 5

-- room for the longest text
abbrev pub text_length : ℕ
text_length = head_length + line_length * class_limit

-- class c can be read: its rows lie within the stores, and its name and identifier within its row
pub record ListedClass (classes closure : List ℕ) (c : ℕ) : Type 0 where
  pub classes_long : store_length Classes ≤ length classes
  pub closure_long : closure_length ≤ length closure
  pub below : c < class_limit
  pub bounded : Bounded Classes ((table_in Classes classes).row c)
