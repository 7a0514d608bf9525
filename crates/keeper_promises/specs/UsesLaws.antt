-- What "in order" gives whoever uses the stores: from the shape of the stores, the rules as statements and the kept sets afresh.
use Rattle.std.specs.Prelude.{Bool, true, false, cond, List, [], ◌⊎◌, ◌≡◌, refl, ℕ, ◌+◌, ◌*◌, ◌/◌, ◌≤◌, ◌<◌, get_or}
use Rattle.std.proofs.Common.{true≢false, inl, inr, ⊎_elim, sym, ap, ◌∙◌, arith}
use Rattle.std.proofs.Math.Decide.{dec_lt, ℕ_discrete}
use Rattle.prelude.specs.BigEndian.{big_endian}
use Rattle.prelude.specs.BigEndianLaws.{four_bytes, two_bytes}
use Rattle.prelude.specs.Part.{Bytes, part}
use Rattle.prelude.specs.PartLaws.{part_bytes, part_none, part_short}
use Rattle.prelude.specs.SaysLaws.{says_eq, says_false, true_or_false}
use Rattle.sets.specs.Sets.{bit}
use Rattle.sets.specs.SetsLaws.{bit_past}
use Rattle.schema.specs.AttributeRow.{bound_at, is_single_valued, object_class_length, object_class_of, om_syntax_of, syntax_of}
use Rattle.schema.specs.ClassRow.{category_of, naming_of, superclass_of}
use Rattle.schema.specs.Layout.{fixed_auxiliary_at, fixed_optional_at, fixed_superior_at, mandatory_at, naming_at, object_class_at, open_auxiliary_at}
use Rattle.schema.specs.Layout.{open_optional_at, open_superior_at, range_lower_at, range_upper_at, row_width, rows_at}
use Rattle.schema.specs.ObjectClassesLaws.{says_object_class_fits}
use Rattle.schema.specs.Row.{HasArcs, arc_count, arc_of, flag_at, is_defunct}
use Rattle.schema.specs.RowLaws.{same_arcs}
use Rattle.schema.specs.Store.{Stores, schema_of, table, table_in, Schema, Table}
use Rattle.schema.specs.declared.number.TableId.{TableId}
use Rattle.schema.specs.declared.number.TableId.TheVariants.{Attributes, Classes}
use Rattle.tables.specs.Live.{Live}
use Rattle.tables.specs.Named.{Lists, Names}
use Rattle.tables.specs.Shaped.{TableShaped}
use Rattle.tables.specs.declared.named.ClassList.{ClassList}
use Rattle.tables.specs.declared.named.ClassList.TheVariants.{Auxiliaries, Superiors}
use Rattle.rows_read.specs.ObjectClass.{is_object, is_settled}
use Rattle.rows_read.specs.WellFormed.{is_finished, well_formed}
use Rattle.rows_read.specs.WellFormedLaws.{formed_parts}
use Rattle.rules_names.specs.Name.{SameName, folded}
use Rattle.rules_unique.proofs.IdentifierLaws.{row_arcs}
use Rattle.rules_attribute.proofs.SyntaxLaws.{says_syntax_fits}
use Rattle.rules_class.specs.Category.{list_category}
use Rattle.rules_class.specs.Live.{SuperclassEarly}
use Rattle.rules.specs.Meets.{Meets, Fitting, name_invalid, name_taken, identifier_invalid, identifier_taken, guid_taken, attribute_not_live, class_not_live}
use Rattle.rules.specs.Meets.{not_an_auxiliary, not_a_superior, root_not_abstract, abstract_under_other, auxiliary_under_structural, structural_under_auxiliary}
use Rattle.rules.specs.Meets.{naming_unfit, mapi_taken, range_crossed, syntax_misfit, object_class_wrong}
use Rattle.rules.specs.Meets.{link_taken, link_alone, link_syntax_unfit}
use Rattle.rules.specs.declared.row.Added.TheVariants.{Nothing}
use Rattle.rules.proofs.MeetsLaws.{kept_met}
use Rattle.tables_shape.proofs.ShapeLaws.{table_shaped}
use Rattle.keeper_promises.specs.PaperTablesLaws.{paper_tables, small_folds}
use Rattle.keeper_promises.specs.Promises.{InOrder, OfBytes}
use Rattle.keeper_promises.specs.Uses.{AttributeSound, ClassSound, OneName, ReachSound, Reached, RowSound, RowsApart}
use Rattle.keeper_promises.specs.Uses.{Uses, Active, Usable, itself, by_superclass, by_fixed, by_open}
use Rattle.keeper_promises.specs.UsesGraphLaws.{kept_sound}
use Rattle.schema.specs.declared.number.AttributeNumber.{AttributeNumber}
use Rattle.std.specs.Prelude.{Option, Some, None}

-- ---- live rows

active_or_not : (row : List ℕ) → ¬ (is_defunct row ≡ true) → Active row
active_or_not row d = ⊎_elim (λ e. absurd (d e)) (λ e. e) (true_or_false (is_defunct row))

live_usable : (t : Table) (naming : List ℕ) (n : ℕ) → Live t naming n → Usable t naming n
live_usable t naming n h = (h.0, λ a. ⊎_elim (λ e. absurd (true≢false (sym e ∙ a))) (active_or_not (t.row n)) h.1)

-- a set of w bytes in a row holds no number from w * 8 on
bit_below : (at w : ℕ) (row : List ℕ) (n : ℕ) → bit (part at w row) n ≡ 1 → n < w * 8
bit_below at w row n e = go (dec_lt n (w * 8))
  where
    go : Dec (n < w * 8) → n < w * 8
    go (yes l) = l
    go (no d) =
        let short = (part_short at w row).0 in
        let past : w ≤ n / 8 = omega arith in
        let z : bit (part at w row) n ≡ 0 = bit_past (part at w row) n (omega arith) in
        absurd (omega arith)

-- ---- numbers in a row

number_in : Option AttributeNumber → ℕ
number_in (Some a) = a.0
number_in None = 0

naming_below : (row : List ℕ) (b : ℕ) → Bytes row → naming_of row ≡ Some (record { 0 = b }) → b < 256
unfolding naming_of number_in
naming_below row b bytes e = go (flag_at naming_at row) refl
  where
    go : (f : Bool) → flag_at naming_at row ≡ f → b < 256
    go true q =
        let n : get_or row (naming_at + 1) 0 ≡ b =
        sym (ap (λ (f : Bool). number_in (cond f (Some (record { 0 = get_or row (naming_at + 1) 0 })) None)) q) ∙ ap number_in e in
        omega (arith, bytes (naming_at + 1))
    go false q =
        let n : 0 ≡ b = sym (ap (λ (f : Bool). number_in (cond f (Some (record { 0 = get_or row (naming_at + 1) 0 })) None)) q) ∙ ap number_in e in
        omega arith

end_in : Option ℕ → ℕ
end_in (Some x) = x
end_in None = 0

number_below : (row : List ℕ) (at : ℕ) → Bytes row → big_endian 4 at row < 4294967296
number_below row at bytes =
    omega (arith, four_bytes at row, two_bytes at row, two_bytes (at + 2) row, bytes at, bytes (at + 1), bytes (at + 2), bytes (at + 2 + 1))

end_below : (row : List ℕ) (at x : ℕ) → Bytes row → bound_at at row ≡ Some x → x < 4294967296
unfolding bound_at end_in
end_below row at x bytes e = go (flag_at at row) refl
  where
    go : (f : Bool) → flag_at at row ≡ f → x < 4294967296
    go true q =
        let n : big_endian 4 (at + 1) row ≡ x = sym (ap (λ (f : Bool). end_in (cond f (Some (big_endian 4 (at + 1) row)) None)) q) ∙ ap end_in e in
        omega (arith, number_below row (at + 1) bytes)
    go false q =
        let n : 0 ≡ x = sym (ap (λ (f : Bool). end_in (cond f (Some (big_endian 4 (at + 1) row)) None)) q) ∙ ap end_in e in
        omega arith

-- a row whose oMSyntax is not 127 has no oMObjectClass
no_object_lem : (row : List ℕ) → well_formed Attributes row ≡ true → ¬ (om_syntax_of row ≡ 127) → object_class_of row ≡ []
unfolding is_finished is_settled
no_object_lem row formed d =
    let e = (formed_parts Attributes row formed).1 in
    let q : is_object row ≡ false = says_false (says_eq (om_syntax_of row) 127) d in
    let n : object_class_length row ≡ 0 = (says_eq (object_class_length row) 0).holds (rw q at e) in
    ap (λ (n : ℕ). part (object_class_at + 1) n row) n ∙ part_none (object_class_at + 1) row

-- ---- a schema that meets every rule

module _ (m : Schema) (met : Meets Nothing m) where
  -- names: what is one name is folded alike
  one_name : {a b : List ℕ} → OneName a b → SameName a b
  one_name h =
      record { lengths = h.lengths; bytes = λ i l. ⊎_elim (ap folded) (⊎_elim small_folds (λ q. sym (small_folds q))) (h.bytes i l) }

  rows_apart : ((t : TableId) (k : ℕ) → k < (table t m).count → HasArcs ((table t m).row k)) → RowsApart m
  rows_apart arcs = record {
    names = λ t k l u j q h. met name_taken t k l u j q (one_name h);
    identifiers = λ t k l u j q h. met identifier_taken t k l u j q ((same_arcs (arcs t k l) (arcs u j q)).1 h);
    guids = met guid_taken;
    links = λ k j l q d e. met link_taken k l j q d e;
    mapis = λ k j l q d e. met mapi_taken k l j q d e;
  }

  row_sound : (t : TableId) (k : ℕ) → k < (table t m).count → arc_count ((table t m).row k) ≤ 16 → RowSound ((table t m).row k)
  row_sound t k l few =
      let row = (table t m).row k in
      let valid = met name_invalid t k l in
      let invalid = met identifier_invalid t k l in
      let none : arc_count row < 2 → ⊥ = λ q. invalid (inl q) in
      let high : 2 < arc_of row 0 → ⊥ = λ q. invalid (inr (inl q)) in
      record {
        begun = valid.begun;
        letter = valid.letter;
        bytes = valid.bytes;
        arcs = (omega arith, few);
        first = omega arith;
        second = λ p. (let over : 39 < arc_of row 1 → ⊥ = λ q. invalid (inr (inr (omega arith, q))) in omega arith);
      }

  attribute_sound : (k : ℕ) → k < m.attributes.count → Bytes (m.attributes.row k) → well_formed Attributes (m.attributes.row k) ≡ true
      → AttributeSound m.attributes (m.attributes.row k)
  attribute_sound k l bytes formed =
      let row = m.attributes.row k in
      record {
        syntaxes = (paper_tables.syntax_pairs_lem (syntax_of row) (om_syntax_of row)).0
            ((says_syntax_fits (syntax_of row) (om_syntax_of row)).passes (met syntax_misfit k l));
        object = λ e. (paper_tables.object_classes_lem (syntax_of row) (object_class_of row)).0
            ((says_object_class_fits (syntax_of row) (object_class_of row)).passes (met object_class_wrong k l e));
        no_object = no_object_lem row formed;
        range = λ a b p q. ((paper_tables.range_rule Nothing m k).ends a b (end_below row range_lower_at a bytes p) (end_below row range_upper_at b bytes q) p q).0
            ((kept_met Nothing m range_crossed).1 (met range_crossed) Attributes k l);
        forward = λ e. (let f = met link_alone k l e in record {
          at = f.at;
          below = f.below;
          is = (live_usable m.attributes row f.at f.is.1, (f.is.0.1, f.is.0.0));
        });
        linked = λ present. ((paper_tables.link_rule Nothing m k).present present).0
            ((kept_met Nothing m link_syntax_unfit).1 (met link_syntax_unfit) Attributes k l);
      }

  -- ---- classes

  module _ (few : m.classes.count ≤ 128) (bytes : (c : ℕ) → Bytes (m.classes.row c)) where
    abbrev classes : Table
    classes = m.classes

    names_attribute : (c b : ℕ) → c < classes.count → b < 256 → Names Attributes (classes.row c) b → Usable m.attributes (classes.row c) b
    names_attribute c b l below h = live_usable m.attributes (classes.row c) b ((met attribute_not_live).0 c l b below h)

    names_class : (c d : ℕ) → c < classes.count → d < 128 → Names Classes (classes.row c) d → Usable classes (classes.row c) d
    names_class c d l below h = live_usable classes (classes.row c) d ((met class_not_live).0 c l d below h)

    early : (c : ℕ) → c < classes.count → SuperclassEarly c (classes.row c)
    early c l = (met class_not_live).1 c l

    earlier : (c : ℕ) → c < classes.count → ¬ (c ≡ 0) → superclass_of (classes.row c) < c
    earlier c l d = ⊎_elim (λ q. absurd (d q.0)) (λ q. q) (early c l)

    superclass_usable : (c : ℕ) → c < classes.count → Usable classes (classes.row c) (superclass_of (classes.row c))
    superclass_usable c l = names_class c (superclass_of (classes.row c)) l (⊎_elim (λ q. omega arith) (λ q. omega arith) (early c l)) (inl refl)

    fits : (kind : ClassList) → Fitting kind m → (c d : ℕ) → c < classes.count → d < 128 → Lists kind (classes.row c) d
        → Names Classes (classes.row c) d
        → Usable classes (classes.row c) d × ((category_of (classes.row d) ≡ 0) ⊎ (category_of (classes.row d) ≡ list_category kind))
    fits kind fitting c d l below h n = let u = names_class c d l below n in (u, fitting c l d below h u.0)

    module _ (c : ℕ) (l : c < classes.count) where
      abbrev row : List ℕ
      row = classes.row c

      auxiliary_fits : (d : ℕ) → d < 128 → Lists Auxiliaries row d
          → Usable classes row d × ((category_of (classes.row d) ≡ 0) ⊎ (category_of (classes.row d) ≡ 3))
      auxiliary_fits d below h = fits Auxiliaries (met not_an_auxiliary) c d l below h (inr (inl h))

      superior_fits : (d : ℕ) → d < 128 → Lists Superiors row d
          → Usable classes row d × ((category_of (classes.row d) ≡ 0) ⊎ (category_of (classes.row d) ≡ 1))
      superior_fits d below h = fits Superiors (met not_a_superior) c d l below h (inr (inr h))

      naming_fits : (b : ℕ) → naming_of row ≡ Some (record { 0 = b })
          → Usable m.attributes row b × ((syntax_of (m.attributes.row b) ≡ 12) × (is_single_valued (m.attributes.row b) ≡ true))
      naming_fits b e =
          let u = names_attribute c b l (naming_below row b (bytes c) e) (inr (inr (inr e))) in
          (u, met naming_unfit c l b e u.0)

      under_abstract : ¬ (c ≡ 0) → category_of row ≡ 2 → category_of (classes.row (superclass_of row)) ≡ 2
      under_abstract d e = go (ℕ_discrete (category_of (classes.row (superclass_of row))) 2)
        where
          go : Dec (category_of (classes.row (superclass_of row)) ≡ 2) → category_of (classes.row (superclass_of row)) ≡ 2
          go (yes q) = q
          go (no q) = absurd (met abstract_under_other c l d (superclass_usable c l).0 (e, q))

      pub class_sound : ClassSound m c row
      class_sound = record {
        mandatory = λ b e. names_attribute c b l (bit_below mandatory_at 32 row b e) (inl e);
        fixed_optional = λ b e. names_attribute c b l (bit_below fixed_optional_at 32 row b e) (inr (inl e));
        open_optional = λ b e. names_attribute c b l (bit_below open_optional_at 32 row b e) (inr (inr (inl e)));
        naming = naming_fits;
        superclass = superclass_usable c l;
        fixed_auxiliary = λ d e. auxiliary_fits d (bit_below fixed_auxiliary_at 16 row d e) (inl e);
        open_auxiliary = λ d e. auxiliary_fits d (bit_below open_auxiliary_at 16 row d e) (inr e);
        fixed_superior = λ d e. superior_fits d (bit_below fixed_superior_at 16 row d e) (inl e);
        open_superior = λ d e. superior_fits d (bit_below open_superior_at 16 row d e) (inr e);
        root = λ e. (
          ⊎_elim (λ q. q.1) (λ q. absurd (omega arith)) (early c l),
          ap (λ (n : ℕ). category_of (classes.row n)) e ∙ met root_not_abstract (omega arith),
        );
        earlier = earlier c l;
        abstract = under_abstract;
        auxiliary = λ d e q. met auxiliary_under_structural c l d (superclass_usable c l).0 (e, q);
        structural = λ d e q. met structural_under_auxiliary c l d (superclass_usable c l).0 (e, q);
      }

    -- ---- what a class reaches

    reached_usable : {c x : ℕ} → Reached classes c x → Usable classes (classes.row c) x
    reached_usable (itself l) = (l, λ a. a)
    reached_usable {c} (by_superclass l r) =
        let q = reached_usable r in
        (q.0, λ a. q.1 ((superclass_usable c l).1 a))
    reached_usable {c} (by_fixed {a = d} l e r) =
        let q = reached_usable r in
        (q.0, λ a. q.1 (((class_sound c l).fixed_auxiliary d e).0.1 a))
    reached_usable {c} (by_open {a = d} l e r) =
        let q = reached_usable r in
        (q.0, λ a. q.1 (((class_sound c l).open_auxiliary d e).0.1 a))

    -- an attribute that a class reached lists
    through : (c x b : ℕ) → Reached classes c x → (x < classes.count → Usable m.attributes (classes.row x) b)
        → Usable m.attributes (classes.row c) b
    through c x b r h = let q = reached_usable r in let u = h q.0 in (u.0, λ a. u.1 (q.1 a))

    pub reach_sound : (c : ℕ) → ReachSound m c
    reach_sound c = record {
      reached = λ x r. reached_usable r;
      demanded = λ b d. through c d.class b d.reached (λ l. (class_sound d.class l).mandatory b d.listed);
      allowed = λ b d. through c d.class b d.reached
          (λ l. ⊎_elim ((class_sound d.class l).fixed_optional b) ((class_sound d.class l).open_optional b) d.listed);
    }

-- ---- stores in order

module _ (s : Stores) (h : InOrder s) (of : OfBytes s) where
  abbrev m : Schema
  m = schema_of s

  attributes_shaped : TableShaped Attributes s.attributes
  attributes_shaped = table_shaped Attributes s.attributes h.long.attributes h.shape.attributes

  classes_shaped : TableShaped Classes s.classes
  classes_shaped = table_shaped Classes s.classes h.long.classes h.shape.classes

  arcs : (t : TableId) (k : ℕ) → k < (table t m).count → HasArcs ((table t m).row k)
  arcs Attributes k l = row_arcs Attributes s.attributes attributes_shaped of.attributes k l
  arcs Classes k l = row_arcs Classes s.classes classes_shaped of.classes k l

  row_bytes : (t : TableId) (store : List ℕ) → Bytes store → (k : ℕ) → Bytes ((table_in t store).row k)
  row_bytes t store bytes k = part_bytes (rows_at + row_width t * k) (row_width t) store bytes

  pub uses : Uses s
  uses = record {
    limits = (attributes_shaped.few, classes_shaped.few);
    apart = rows_apart m h.rules arcs;
    rows = λ t k l. row_sound m h.rules t k l (arcs t k l).few;
    attributes = λ k l. attribute_sound m h.rules k l (row_bytes Attributes s.attributes of.attributes k) (h.shape.attributes.rows k l);
    classes = λ c l. class_sound m h.rules classes_shaped.few (row_bytes Classes s.classes of.classes) c l;
    kept = kept_sound s h.fresh;
    reach = λ c l. reach_sound m h.rules classes_shaped.few (row_bytes Classes s.classes of.classes) c;
  }
