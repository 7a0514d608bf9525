-- Number 11. Document 01: "deactivation: an active class names the attribute, or another active class names the class, in any list, as superclass or
-- as rDNAttID; or an active back link needs it".
use Rattle.std.specs.Prelude.{ℕ, Bool, ◌&&◌, ◌||◌, not, List}
use Rattle.schema.specs.declared.number.TableId.TheVariants.{Attributes, Classes}
use Rattle.schema.specs.Store.{Schema, Table}
use Rattle.schema.specs.declared.number.TableId.{TableId}
use Rattle.schema.specs.Row.{is_defunct}
use Rattle.schema.specs.Numbers.{same_row}
use Rattle.rules_attribute.specs.Links.{is_back_link, is_forward_of}
use Rattle.tables.specs.Named.{names}
use Rattle.prelude.specs.Below.{any_below}

-- class j is active, is another row than row k of table t, and names it
unfoldable pub class_needs : TableId → ℕ → Table → ℕ → Bool
class_needs t k c j = not (same_row t k Classes j) && (not (is_defunct (c.row j)) && names t (c.row j) k)

-- attribute j is active, and a back link whose forward link is the row
unfoldable pub link_needs : List ℕ → Table → ℕ → Bool
link_needs row a j = not (is_defunct (a.row j)) && (is_back_link (a.row j) && is_forward_of (a.row j) row)

-- some row needs row k of table t
unfoldable pub needed : Schema → TableId → ℕ → Bool
needed m Attributes k =
    any_below m.classes.count (class_needs Attributes k m.classes)
    || any_below m.attributes.count (link_needs (m.attributes.row k) m.attributes)
needed m Classes k = any_below m.classes.count (class_needs Classes k m.classes)
