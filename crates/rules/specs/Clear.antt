-- Rules that compare rows by a key, and that no row breaks: the code tells them in one pass over the rows.
use Rattle.std.specs.Prelude.{Bool, not, ◌&&◌, List, [], ◌∷◌, ℕ}
use Rattle.prelude.specs.Unlike.{among}
use Rattle.schema.specs.Store.{Schema}
use Rattle.rules.specs.declared.row.Added.{Added}
use Rattle.rules.specs.Rules.{numbered, schema_rules}
use Rattle.rules.specs.Judge.{broken}
use Rattle.schema.specs.Refusals as refusal

-- those that compare rows by a key, from the last to the first
abbrev pub key_numbers : List ℕ
key_numbers = refusal.link_taken ∷ refusal.mapi_taken ∷ refusal.guid_taken ∷ refusal.identifier_taken ∷ refusal.name_taken ∷ []

-- the rule of a number is one of them, and no row breaks it
unfoldable pub is_clear : Added → Schema → ℕ → Bool
is_clear added m n = among key_numbers n && not (broken m (numbered (schema_rules added) n))
