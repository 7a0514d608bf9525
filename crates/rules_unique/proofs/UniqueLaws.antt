-- What the tests of uniqueness say, and that having the same key is symmetric.
use Rattle.std.specs.Prelude.{true, ◌⊎◌, ◌≡◌}
use mathlib.Core.List.{List}
use Rattle.std.proofs.Common.{inl, inr, sym, ◌∙◌, arith}
use Rattle.std.proofs.Math.Logic.{⊎_elim}
use Prim.Native.Nat.{ℕ, ◌<◌, ◌≤◌}
use Rattle.prelude.specs.Says.{Says}
use Rattle.prelude.specs.SaysLaws.{says, says_and, says_or, says_not, says_test, says_iff}
use Rattle.prelude.specs.Below.{Some}
use Rattle.prelude.specs.BelowLaws.{says_any}
use Rattle.prelude.specs.PartLaws.{says_same_bytes}
use Rattle.schema.specs.declared.number.TableId.{TableId}
use Rattle.schema.specs.declared.number.TableId.TheVariants.{Attributes, Classes}
use Rattle.schema.specs.Numbers.{SameRow}
use Rattle.schema.specs.NumbersLaws.{says_same_row}
use Rattle.schema.specs.Layout.{attribute_width, row_width}
use Rattle.schema.specs.Row.{name_of, identifier_of, guid_of}
use Rattle.schema.specs.AttributeRow.{mapi_of, link_of}
use Rattle.schema.specs.Store.{Table, Schema, table, table_in, schema_in, store_of}
use Rattle.schema.specs.StoreLaws.{table_row_length, schema_table}
use Rattle.tables.specs.Shaped.{TableShaped, Shaped}
use Rattle.tables.specs.ShapedLaws.{shaped_table}
use Rattle.rules_names.specs.NameLaws.{says_same_name, same_name_symmetric}
use Rattle.rules_unique.specs.declared.Key.{Key}
use Rattle.rules_unique.specs.declared.Key.TheVariants.{Name, Identifier, Guid, Mapi, Link}
use Rattle.rules_unique.specs.Unique.{has_key, same_present, same_key, Counting, clash, rival_in, taken, SamePresent, SameKey, Clash, Rival, Keyed}

says_same_present : (a b : ℕ) → Says (same_present a b) (SamePresent a b)
unfolding same_present
says_same_present a b = search says

pub says_same_key : (key : Key) (a b : List ℕ) → Says (same_key key a b) (SameKey key a b)
unfolding same_key
says_same_key Name a b = says_same_name (name_of a) (name_of b)
says_same_key Identifier a b = says_same_bytes (identifier_of a) (identifier_of b)
says_same_key Guid a b = says_same_bytes (guid_of a) (guid_of b)
says_same_key Mapi a b = says_same_present (mapi_of a) (mapi_of b)
says_same_key Link a b = says_same_present (link_of a) (link_of b)

module _ (counts : Counting) (key : Key) where
  says_clash : (a b : List ℕ) → Says (clash counts key a b) (Clash counts key a b)
  says_clash a b =
      says_iff (says_and (says_and (says_test (counts a)) (says_test (counts b))) (says_same_key key a b))
      (λ h. record { first = h.0.0; second = h.0.1; same = h.1 }, λ h. ((h.first, h.second), h.same))

  says_rival_in : (u : TableId) (rows : Table) (t : TableId) (k : ℕ) (row : List ℕ)
      → Says (rival_in counts key u rows t k row) ((has_key key u ≡ true) × Some rows.count (λ j. ¬ (SameRow t k u j) × Clash counts key row (rows.row j)))
  unfolding rival_in
  says_rival_in u rows t k row =
      says_and (says_test (has_key key u)) (says_any rows.count (λ j l. says_and (says_not (says_same_row t k u j)) (says_clash row (rows.row j))))

  -- rules 13, 15, 16, 24 and 28
  pub says_taken : (m : Schema) (t : TableId) (k : ℕ) → Says (taken counts key m t k) (Rival counts key m t k)
  unfolding taken
  says_taken m t k =
      says_iff
      (says_and (says_test (has_key key t)) (says_or (says_rival_in Attributes m.attributes t k row) (says_rival_in Classes m.classes t k row))) (
        λ h. ⊎_elim (λ r. rival Attributes h.0 r) (λ r. rival Classes h.0 r) h.1,
        λ r.
            (r.has, back r.of r.its r.at r.below r.other r.clash),
      )
    where
      row : List ℕ
      row = (table t m).row k

      Held : TableId → Type 0
      Held u = (has_key key u ≡ true) × Some (table u m).count (λ j. ¬ (SameRow t k u j) × Clash counts key ((table t m).row k) ((table u m).row j))

      rival : (u : TableId) → has_key key t ≡ true → Held u → Rival counts key m t k
      rival u has h = record { has = has; of = u; its = h.0; at = h.1.at; below = h.1.below; other = h.1.is.0; clash = h.1.is.1 }

      back : (u : TableId) → has_key key u ≡ true → (j : ℕ) → j < (table u m).count → ¬ (SameRow t k u j)
          → Clash counts key ((table t m).row k) ((table u m).row j)
          → Held Attributes ⊎ Held Classes
      back Attributes its j l d c = inl (its, record { at = j; below = l; is = (d, c) })
      back Classes its j l d c = inr (its, record { at = j; below = l; is = (d, c) })

-- ---- symmetry

present_turned : {a b : ℕ} → SamePresent a b → SamePresent b a
present_turned s = (λ e. s.0 (s.1 ∙ e), sym s.1)

same_key_turned : (key : Key) (a b : List ℕ) → SameKey key a b → SameKey key b a
same_key_turned Name a b s =
    (says_same_name (name_of b) (name_of a)).holds (same_name_symmetric (name_of b) (name_of a) ∙ (says_same_name (name_of a) (name_of b)).passes s)
same_key_turned Identifier a b s = sym s
same_key_turned Guid a b s = sym s
same_key_turned Mapi a b s = present_turned s
same_key_turned Link a b s = present_turned s

pub clash_turned : {counts : Counting} {key : Key} {a b : List ℕ} → Clash counts key a b → Clash counts key b a
clash_turned {counts} {key} {a} {b} s = record { first = s.second; second = s.first; same = same_key_turned key a b s.same }

-- ---- a row of a shaped store has its keys

widest : (t : TableId) → attribute_width ≤ row_width t
widest Attributes = omega arith
widest Classes = omega arith

pub row_keyed : (t : TableId) (s : List ℕ) → TableShaped t s → (k : ℕ) → k < (table_in t s).count → Keyed ((table_in t s).row k)
row_keyed t s h k l = record {
  wide = omega (arith, widest t, table_row_length t s k h.long (omega (arith, h.few)));
  name = (h.bounded k l).name;
  arcs = (h.bounded k l).arcs;
}

pub schema_keyed : {a c : List ℕ} → Shaped a c → (t : TableId) (k : ℕ) → k < (table t (schema_in a c)).count → Keyed ((table t (schema_in a c)).row k)
schema_keyed {a} {c} h t k l = let e = schema_table t a c in rw e (row_keyed t (store_of t a c) (shaped_table t h) k (rw e at l))
