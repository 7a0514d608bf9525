-- What no two rows may share, in either table or among the attributes: rules 13, 15, 16, 24 and 28.
use Rattle.std.specs.Prelude.{Bool, true, false, not, ◌&&◌, ◌||◌, List, ◌≡◌, ℕ, ◌≤◌, ◌<◌, eqb, length}
use Rattle.prelude.specs.Part.{same_bytes}
use Rattle.prelude.specs.Below.{any_below}
use Rattle.schema.specs.declared.number.TableId.{TableId}
use Rattle.schema.specs.declared.number.TableId.TheVariants.{Attributes, Classes}
use Rattle.schema.specs.Numbers.{same_row, SameRow}
use Rattle.schema.specs.Layout.{name_limit, arc_limit, attribute_width}
use Rattle.schema.specs.Row.{name_of, name_length, identifier_of, arc_count, guid_of}
use Rattle.schema.specs.AttributeRow.{link_of, mapi_of}
use Rattle.schema.specs.Store.{Table, Schema, table}
use Rattle.rules_names.specs.Name.{same_name, SameName}
use Rattle.rules_unique.specs.declared.Key.{Key}
use Rattle.rules_unique.specs.declared.Key.TheVariants.{Name, Identifier, Guid, Mapi, Link}

-- only attributes have a mAPIID and a linkID
unfoldable pub has_key : Key → TableId → Bool
has_key key Attributes = true
has_key Name Classes = true
has_key Identifier Classes = true
has_key Guid Classes = true
has_key Mapi Classes = false
has_key Link Classes = false

-- linkID and mAPIID: "0 is absent", and only a present one can be taken
unfoldable pub same_present : ℕ → ℕ → Bool
same_present a b = not (eqb a 0) && eqb a b

-- two rows have the same key. "A to Z equal to a to z"
unfoldable pub same_key : Key → List ℕ → List ℕ → Bool
same_key Name a b = same_name (name_of a) (name_of b)
same_key Identifier a b = same_bytes (identifier_of a) (identifier_of b)
same_key Guid a b = same_bytes (guid_of a) (guid_of b)
same_key Mapi a b = same_present (mapi_of a) (mapi_of b)
same_key Link a b = same_present (link_of a) (link_of b)

-- Which rows count. "defunct rows count (house), here and below": today every row does
abbrev pub Counting : Type 0
Counting = List ℕ → Bool

abbrev pub every_row : Counting
every_row row = true

-- two rows that count and have the same key
abbrev pub clash : Counting → Key → List ℕ → List ℕ → Bool
clash counts key a b = (counts a && counts b) && same_key key a b

-- "A row is not its own rival": another row of table u, whose rows are given, clashes with row k of table t, which is given too
unfoldable pub rival_in : Counting → Key → TableId → Table → TableId → ℕ → List ℕ → Bool
rival_in counts key u rows t k row = has_key key u && any_below rows.count (λ j. not (same_row t k u j) && clash counts key row (rows.row j))

-- "13 Name taken, in either table", "15 Identifier taken, 16 GUID taken, in either table", "24 A present mAPIID is taken.", "28 A present linkID is taken."
unfoldable pub taken : Counting → Key → Schema → TableId → ℕ → Bool
taken counts key m t k =
    has_key key t
    && (rival_in counts key Attributes m.attributes t k ((table t m).row k) || rival_in counts key Classes m.classes t k ((table t m).row k))

-- ---- the same as statements

abbrev pub SamePresent : ℕ → ℕ → Type 0
SamePresent a b = ¬ (a ≡ 0) × (a ≡ b)

abbrev pub SameKey : Key → List ℕ → List ℕ → Type 0
SameKey Name a b = SameName (name_of a) (name_of b)
SameKey Identifier a b = identifier_of a ≡ identifier_of b
SameKey Guid a b = guid_of a ≡ guid_of b
SameKey Mapi a b = SamePresent (mapi_of a) (mapi_of b)
SameKey Link a b = SamePresent (link_of a) (link_of b)

pub record Clash (counts : Counting) (key : Key) (a b : List ℕ) : Type 0 where
  pub first : counts a ≡ true
  pub second : counts b ≡ true
  pub same : SameKey key a b

-- another row of either table clashes with row k of table t
pub record Rival (counts : Counting) (key : Key) (m : Schema) (t : TableId) (k : ℕ) : Type 0 where
  pub has : has_key key t ≡ true
  pub of : TableId
  pub its : has_key key of ≡ true
  pub at : ℕ
  pub below : at < (table of m).count
  pub other : ¬ (SameRow t k of at)
  pub clash : Clash counts key ((table t m).row k) ((table of m).row at)

-- ---- what the comparison reads

-- the keys of a row lie within it
pub record Keyed (row : List ℕ) : Type 0 where
  pub wide : attribute_width ≤ length row
  pub name : name_length row ≤ name_limit
  pub arcs : arc_count row ≤ arc_limit
