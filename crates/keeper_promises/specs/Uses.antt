-- What "in order" gives whoever uses the stores: statements of the bytes of rows and kept sets, in the papers' own words and not by the tests of the rules;
-- `uses` (UsesLaws) is a member of the record for all stores in order. A list that a rule leaves out, or two lists exchanged, contradicts one of them.
use Rattle.std.specs.Prelude.{true, false, List, [], ◌⊎◌, ◌↔◌, ◌≡◌, ℕ, ◌+◌, ◌%◌, ◌≤◌, ◌<◌, length, get_or}
use Rattle.prelude.specs.Below.{Some}
use Rattle.sets.specs.Sets.{bit}
use Rattle.schema.specs.AttributeRow.{is_single_valued, link_of, mapi_of, object_class_of, om_syntax_of, range_lower, range_upper, syntax_of}
use Rattle.schema.specs.ClassRow.{category_of, fixed_auxiliary_of, fixed_optional_of, fixed_superior_of, mandatory_of, naming_of, open_auxiliary_of}
use Rattle.schema.specs.ClassRow.{open_optional_of, open_superior_of, superclass_of}
use Rattle.schema.specs.Numbers.{SameRow}
use Rattle.schema.specs.Row.{SameArcs, arc_count, arc_of, guid_of, is_defunct, name_of}
use Rattle.schema.specs.Store.{Schema, Stores, Table, allowed_in, demanded_in, reached_in, schema_of, table}
use Rattle.schema.specs.declared.number.TableId.{TableId}
use Rattle.keeper_promises.specs.PaperTables.{LinkSyntax, RightObjectClass, SignedAtMost, SmallOf, SyntaxPair}
use Rattle.std.specs.declared.option.Option.TheVariants as option

-- ---- words

-- "active or defunct"
abbrev pub Active : List ℕ → Type 0
Active row = is_defunct row ≡ false

-- "the named row must exist, and must be active if the naming row is"
abbrev pub Usable : Table → List ℕ → ℕ → Type 0
Usable t naming n = (n < t.count) × (Active naming → Active (t.row n))

-- a byte that may begin a name, and one that may follow
abbrev pub AsciiLetter : ℕ → Type 0
AsciiLetter b = ((65 ≤ b) × (b ≤ 90)) ⊎ ((97 ≤ b) × (b ≤ 122))

-- one name, "A to Z equal to a to z"
pub record OneName (a b : List ℕ) : Type 0 where
  pub lengths : length a ≡ length b
  pub bytes : (i : ℕ) → i < length a → (get_or a i 0 ≡ get_or b i 0) ⊎ (SmallOf (get_or a i 0) (get_or b i 0) ⊎ SmallOf (get_or b i 0) (get_or a i 0))

-- a class whose row this is has y for "its superclass" or one of "its auxiliaries"
abbrev pub Inherits : List ℕ → ℕ → Type 0
Inherits row y = (superclass_of row ≡ y) ⊎ ((bit (fixed_auxiliary_of row) y ≡ 1) ⊎ (bit (open_auxiliary_of row) y ≡ 1))

-- "A class *reaches* itself, its superclass, all its auxiliaries, and what these reach .. Nothing more is reached; numbers without a row are passed over."
pub data Reached (t : Table) : ℕ → ℕ → Type 0 where
  itself : {c : ℕ} → c < t.count → Reached t c c
  by_superclass : {c x : ℕ} → c < t.count → Reached t (superclass_of (t.row c)) x → Reached t c x
  by_fixed : {c a x : ℕ} → c < t.count → bit (fixed_auxiliary_of (t.row c)) a ≡ 1 → Reached t a x → Reached t c x
  by_open : {c a x : ℕ} → c < t.count → bit (open_auxiliary_of (t.row c)) a ≡ 1 → Reached t a x → Reached t c x

-- "(what it *demands*: the union over the classes reached)", "optional attributes (likewise, fixed and open)"
pub record Demanded (t : Table) (c b : ℕ) : Type 0 where
  pub class : ℕ
  pub reached : Reached t c class
  pub listed : bit (mandatory_of (t.row class)) b ≡ 1

pub record Allowed (t : Table) (c b : ℕ) : Type 0 where
  pub class : ℕ
  pub reached : Reached t c class
  pub listed : (bit (fixed_optional_of (t.row class)) b ≡ 1) ⊎ (bit (open_optional_of (t.row class)) b ≡ 1)

-- ---- rows apart: "in either table"; "A row is not its own rival; defunct rows count"

-- rows that agree in something are one row
abbrev pub OneRow : Schema → (List ℕ → List ℕ → Type 0) → Type 0
OneRow m Agree =
    (t : TableId) (k : ℕ) → k < (table t m).count → (u : TableId) (j : ℕ) → j < (table u m).count → Agree ((table t m).row k) ((table u m).row j)
    → SameRow t k u j

pub record RowsApart (m : Schema) : Type 0 where
  pub names : OneRow m (λ a b. OneName (name_of a) (name_of b))
  pub identifiers : OneRow m SameArcs
  pub guids : OneRow m (λ a b. guid_of a ≡ guid_of b)
  -- "linkID and mAPIID (0 is absent)"
  pub links : (k j : ℕ) → k < m.attributes.count → j < m.attributes.count → ¬ (link_of (m.attributes.row k) ≡ 0)
      → link_of (m.attributes.row k) ≡ link_of (m.attributes.row j) → k ≡ j
  pub mapis : (k j : ℕ) → k < m.attributes.count → j < m.attributes.count → ¬ (mapi_of (m.attributes.row k) ≡ 0)
      → mapi_of (m.attributes.row k) ≡ mapi_of (m.attributes.row j) → k ≡ j

-- ---- each row by itself

pub record RowSound (row : List ℕ) : Type 0 where
  pub begun : 0 < length (name_of row)
  pub letter : AsciiLetter (get_or (name_of row) 0 0)
  pub bytes : (i : ℕ) → i < length (name_of row)
      → AsciiLetter (get_or (name_of row) i 0) ⊎ (((48 ≤ get_or (name_of row) i 0) × (get_or (name_of row) i 0 ≤ 57)) ⊎ (get_or (name_of row) i 0 ≡ 45))
  pub arcs : (2 ≤ arc_count row) × (arc_count row ≤ 16)
  pub first : arc_of row 0 ≤ 2
  pub second : arc_of row 0 ≤ 1 → arc_of row 1 ≤ 39

-- attribute row of a table of attributes
pub record AttributeSound (a : Table) (row : List ℕ) : Type 0 where
  pub syntaxes : SyntaxPair (syntax_of row) (om_syntax_of row)
  pub object : om_syntax_of row ≡ 127 → RightObjectClass (syntax_of row) (object_class_of row)
  pub no_object : ¬ (om_syntax_of row ≡ 127) → object_class_of row ≡ []
  pub range : (l u : ℕ) → range_lower row ≡ option.Some l → range_upper row ≡ option.Some u → SignedAtMost l u
  -- "An odd linkID without a live attribute holding the number one less; 1 never has one"
  pub forward : link_of row % 2 ≡ 1 → Some a.count (λ j. Usable a row j × ((link_of (a.row j) + 1 ≡ link_of row) × ¬ (link_of (a.row j) ≡ 0)))
  -- "Linked attributes must hold names."
  pub linked : ¬ (link_of row ≡ 0) → LinkSyntax (link_of row % 2) (syntax_of row)

-- class row c
pub record ClassSound (m : Schema) (c : ℕ) (row : List ℕ) : Type 0 where
  -- every attribute that it names is usable for it; one that it names by can name
  pub mandatory : (b : ℕ) → bit (mandatory_of row) b ≡ 1 → Usable m.attributes row b
  pub fixed_optional : (b : ℕ) → bit (fixed_optional_of row) b ≡ 1 → Usable m.attributes row b
  pub open_optional : (b : ℕ) → bit (open_optional_of row) b ≡ 1 → Usable m.attributes row b
  pub naming : (b : ℕ) → naming_of row ≡ option.Some (record { 0 = b })
      → Usable m.attributes row b × ((syntax_of (m.attributes.row b) ≡ 12) × (is_single_valued (m.attributes.row b) ≡ true))
  -- so is every class: "19 An auxiliary not of category 0 or 3. 20 A possible superior not of category 0 or 1."
  pub superclass : Usable m.classes row (superclass_of row)
  pub fixed_auxiliary : (d : ℕ) → bit (fixed_auxiliary_of row) d ≡ 1
      → Usable m.classes row d × ((category_of (m.classes.row d) ≡ 0) ⊎ (category_of (m.classes.row d) ≡ 3))
  pub open_auxiliary : (d : ℕ) → bit (open_auxiliary_of row) d ≡ 1
      → Usable m.classes row d × ((category_of (m.classes.row d) ≡ 0) ⊎ (category_of (m.classes.row d) ≡ 3))
  pub fixed_superior : (d : ℕ) → bit (fixed_superior_of row) d ≡ 1
      → Usable m.classes row d × ((category_of (m.classes.row d) ≡ 0) ⊎ (category_of (m.classes.row d) ≡ 1))
  pub open_superior : (d : ℕ) → bit (open_superior_of row) d ≡ 1
      → Usable m.classes row d × ((category_of (m.classes.row d) ≡ 0) ⊎ (category_of (m.classes.row d) ≡ 1))
  -- "Row 0 of the classes is its own superclass. Any other class has an earlier class for superclass"
  pub root : c ≡ 0 → (superclass_of row ≡ 0) × (category_of row ≡ 2)
  pub earlier : ¬ (c ≡ 0) → superclass_of row < c
  -- "abstract under a class not abstract; auxiliary under structural; structural under auxiliary"
  pub abstract : ¬ (c ≡ 0) → category_of row ≡ 2 → category_of (m.classes.row (superclass_of row)) ≡ 2
  pub auxiliary : ¬ (c ≡ 0) → category_of row ≡ 3 → ¬ (category_of (m.classes.row (superclass_of row)) ≡ 1)
  pub structural : ¬ (c ≡ 0) → category_of row ≡ 1 → ¬ (category_of (m.classes.row (superclass_of row)) ≡ 3)

-- ---- kept sets

-- those of class c, as they stand in a closure store, have exactly these classes, mandatory and optional attributes for members
pub record KeptAre (closure : List ℕ) (c : ℕ) (Classes Mandatory Optional : ℕ → Type 0) : Type 0 where
  pub reached : (d : ℕ) → d < 128 → (bit (reached_in closure c) d ≡ 1) ↔ Classes d
  pub demanded : (b : ℕ) → b < 256 → (bit (demanded_in closure c) b ≡ 1) ↔ Mandatory b
  pub allowed : (b : ℕ) → b < 256 → (bit (allowed_in closure c) b ≡ 1) ↔ Optional b

-- exactly what the class reaches, demands and allows by the rows
abbrev pub KeptSound : Stores → ℕ → Type 0
KeptSound s c = KeptAre s.closure c (Reached (schema_of s).classes c) (Demanded (schema_of s).classes c) (Allowed (schema_of s).classes c)

-- what a class reaches, demands and allows is there, and active if the class is
pub record ReachSound (m : Schema) (c : ℕ) : Type 0 where
  pub reached : (x : ℕ) → Reached m.classes c x → Usable m.classes (m.classes.row c) x
  pub demanded : (b : ℕ) → Demanded m.classes c b → Usable m.attributes (m.classes.row c) b
  pub allowed : (b : ℕ) → Allowed m.classes c b → Usable m.attributes (m.classes.row c) b

-- ---- all of it

pub record Uses (s : Stores) : Type 0 where
  pub limits : ((schema_of s).attributes.count ≤ 256) × ((schema_of s).classes.count ≤ 128)
  pub apart : RowsApart (schema_of s)
  pub rows : (t : TableId) (k : ℕ) → k < (table t (schema_of s)).count → RowSound ((table t (schema_of s)).row k)
  pub attributes : (k : ℕ) → k < (schema_of s).attributes.count → AttributeSound (schema_of s).attributes ((schema_of s).attributes.row k)
  pub classes : (c : ℕ) → c < (schema_of s).classes.count → ClassSound (schema_of s) c ((schema_of s).classes.row c)
  -- of the classes that there are, and of no others, "zero for unused rows": these reach nothing
  pub kept : (c : ℕ) → c < 128 → KeptSound s c
  pub reach : (c : ℕ) → c < (schema_of s).classes.count → ReachSound (schema_of s) c
