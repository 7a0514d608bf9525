-- The small tables of documents 01 and 02: the tables of values by computation, the others for every number and every string of bytes.
use Rattle.std.specs.Prelude.{true, false, List, [], ◌∷◌, ◌⊎◌, ◌↔◌, ◌≡◌, refl, ℕ, suc, ◌+◌, ◌*◌, ◌/◌, ◌%◌, ◌≤◌, ◌<◌, get_or}
use Rattle.std.proofs.Common.{inl, inr, ⊎_elim, sym, ap, subst₂, ◌∙◌, subst, arith, ltb-false}
use Rattle.std.proofs.Math.Decide.{dec_lt, ℕ_discrete}
use Rattle.std.proofs.lemmas.Bool.{not-false}
use Rattle.prelude.specs.Below.{any_below, all_below}
use Rattle.prelude.specs.BelowLaws.{last_or_less}
use Rattle.prelude.specs.Part.{part, same_bytes, padded, zeros}
use Rattle.prelude.specs.SaysLaws.{says_eq, says_lt, says_split, says_false}
use Rattle.sets.specs.Sets.{list_below}
use Rattle.schema.specs.AttributeRow.{link_of, range_lower, syntax_of}
use Rattle.schema.specs.ClassRow.{category_of}
use Rattle.schema.specs.ObjectClasses.{object_classes, object_class_fits, entry_count, entry_syntax, entry_value}
use Rattle.schema.specs.ObjectClassesLaws.{says_object_class_fits}
use Rattle.schema.specs.Order.{position, rank}
use Rattle.schema.specs.Row.{is_base, system_flags}
use Rattle.schema.specs.Store.{Schema}
use Rattle.rules_names.specs.Name.{folded, same_name, between, valid_name, is_letter, is_name_byte}
use Rattle.rules_names.specs.NameLaws.{folded_upper, says_same_name, folded_other, says_between}
use Rattle.rules_attribute.specs.Links.{link_syntax_fits, link_syntax_wrong, LinkSyntaxFits}
use Rattle.rules_attribute.proofs.LinksLaws.{says_link_syntax_fits, says_link_syntax_wrong}
use Rattle.rules_attribute.specs.Range.{biased, ends_crossed, range_wrong}
use Rattle.rules_attribute.proofs.RangeLaws.{biased_high, biased_low, less_biased}
use Rattle.rules_attribute.specs.Syntax.{syntax_fits, syntax_pairs, pair_count}
use Rattle.rules_attribute.proofs.SyntaxLaws.{says_syntax_fits}
use Rattle.rules_class.specs.Category.{Illegal, RootIllegal, inheritance_number, inheritance_wrong}
use Rattle.rules_class.proofs.CategoryLaws.{says_inheritance_wrong}
use Rattle.rules_class.specs.declared.category.Inheritance.{Inheritance}
use Rattle.rules_class.specs.declared.category.Inheritance.TheVariants.{AbstractUnderOther, AuxiliaryUnderStructural, RootNotAbstract}
use Rattle.rules_class.specs.declared.category.Inheritance.TheVariants.{StructuralUnderAuxiliary}
use Rattle.rules.specs.Rules.{numbered}
use Rattle.rules.specs.declared.row.Added.{Added}
use Rattle.keeper_promises.specs.PaperTables.{SyntaxPair, name, identifier, exact_string, teletex, printable, ia5, numeric, name_with_binary}
use Rattle.keeper_promises.specs.PaperTables.{boolean, integer, enumeration, octets, universal_time, general_time, unicode, presentation}
use Rattle.keeper_promises.specs.PaperTables.{name_with_string, descriptor, large_integer, sid, RightObjectClass, one, seven, seven_too, thirteen}
use Rattle.keeper_promises.specs.PaperTables.{SignedAtMost, LinkSyntax, even_name, even_name_with_binary, even_name_with_string, odd_name}
use Rattle.keeper_promises.specs.PaperTables.{fourteen, fourteen_too, PaperTables, NameTables, SmallOf, hex_bytes, hex_digit, text}
use Rattle.keeper_promises.specs.PaperTables.{InheritanceRules, LinkRule, RangeRule, UnderClass}
use Rattle.keeper_promises.specs.ComputedLaws as computed
use Rattle.std.specs.Prelude.{Option, Some, None}

-- a proof for each number below n, in their order
infixl 20 ◌also◌
data Upto (P : ℕ → Type 0) : ℕ → Type 0 where
  none : Upto P 0
  ◌also◌ : {n : ℕ} → Upto P n → P n → Upto P (suc n)

below : {P : ℕ → Type 0} {n : ℕ} → Upto P n → (i : ℕ) → i < n → P i
below none i l = absurd (omega arith)
below {P} (before also last) i l = ⊎_elim (λ k. below before i k) (λ e. subst P (sym e) last) (last_or_less l)

-- ---- the base bit

base_bit : (row : List ℕ) (high bit low : ℕ) → low < 0x10 → bit < 2 → system_flags row ≡ high * 0x20 + bit * 0x10 + low → (is_base row ≡ true) ↔ (bit ≡ 1)
base_bit row high bit low l b e = (
  λ h. let q = (says_eq (system_flags row / 16 % 2) 1).holds h in omega arith,
  λ h. (says_eq (system_flags row / 16 % 2) 1).passes (omega arith),
)

-- ---- ranges

range_ends : (l u : ℕ) → l < 4294967296 → u < 4294967296 → (ends_crossed (Some l) (Some u) ≡ false) ↔ SignedAtMost l u
unfolding ends_crossed
range_ends l u hl hu = (
  λ e. forth (ltb-false (biased u) (biased l) (sym (less_biased u l hu hl) ∙ e)) (dec_lt l 2147483648) (dec_lt u 2147483648),
  λ h. less_biased u l hu hl ∙ says_false (says_lt (biased u) (biased l)) (back h),
)
  where
    forth : biased l ≤ biased u → Dec (l < 2147483648) → Dec (u < 2147483648) → SignedAtMost l u
    forth h (yes p) (yes q) = inr (omega (arith, h, biased_low l p, biased_low u q), inl q)
    forth h (yes p) (no q) = absurd (omega (arith, h, biased_low l p, biased_high u (omega arith)))
    forth h (no p) (yes q) = inl (omega arith, q)
    forth h (no p) (no q) = inr (omega (arith, h, biased_high l (omega arith), biased_high u (omega arith)), inr (omega arith))

    back : SignedAtMost l u → ¬ (biased u < biased l)
    back (inl h) b = omega (arith, b, h.0, h.1, biased_high l h.0, biased_low u h.1)
    back (inr (h, inl q)) b = let p : l < 2147483648 = omega arith in omega (arith, b, h, biased_low l p, biased_low u q)
    back (inr (h, inr q)) b = let p : 2147483648 ≤ u = omega arith in omega (arith, b, h, biased_high l q, biased_high u p)

range_rule : (added : Added) (m : Schema) (k : ℕ) → RangeRule added m k
unfolding numbered range_wrong ends_crossed
range_rule added m k = record {
  ends = λ l u hl hu p q. rw (p, q) (range_ends l u hl hu);
  no_lower = λ e. rw e;
  no_upper = λ e. rw e (no_upper_lem (range_lower (m.attributes.row k)));
  no_class = refl;
}
  where
    no_upper_lem : (l : Option ℕ) → ends_crossed l None ≡ false
    no_upper_lem (Some l) = refl
    no_upper_lem None = refl

-- ---- syntaxes

-- the pairs of the table, each one of the paper's
pairs_listed : (i : ℕ) → i < pair_count → SyntaxPair (get_or syntax_pairs (2 * i) 0) (get_or syntax_pairs (2 * i + 1) 0)
pairs_listed =
    below
    (none also name also identifier also exact_string also teletex also printable also ia5 also numeric also name_with_binary also boolean also integer
    also enumeration also octets also universal_time also general_time also unicode also presentation also name_with_string also descriptor
    also large_integer also sid)

syntax_pairs_lem : (syntax omSyntax : ℕ) → (syntax_fits syntax omSyntax ≡ true) ↔ SyntaxPair syntax omSyntax
unfolding syntax_fits any_below
syntax_pairs_lem syntax omSyntax = (listed, fits)
  where
    listed : syntax_fits syntax omSyntax ≡ true → SyntaxPair syntax omSyntax
    listed h = let s = (says_syntax_fits syntax omSyntax).holds h in subst₂ SyntaxPair s.is.0 s.is.1 (pairs_listed s.at s.below)

    fits : {a b : ℕ} → SyntaxPair a b → syntax_fits a b ≡ true
    fits name = refl
    fits identifier = refl
    fits exact_string = refl
    fits teletex = refl
    fits printable = refl
    fits ia5 = refl
    fits numeric = refl
    fits name_with_binary = refl
    fits boolean = refl
    fits integer = refl
    fits enumeration = refl
    fits octets = refl
    fits universal_time = refl
    fits general_time = refl
    fits unicode = refl
    fits presentation = refl
    fits name_with_string = refl
    fits descriptor = refl
    fits large_integer = refl
    fits sid = refl

-- ---- values of oMObjectClass

values_listed : (i : ℕ) → i < entry_count → RightObjectClass (entry_syntax object_classes i) (entry_value object_classes i)
unfolding object_classes part padded zeros hex_bytes hex_digit text
values_listed = below (none also one also seven also seven_too also thirteen also fourteen also fourteen_too)

object_classes_lem : (syntax : ℕ) (value : List ℕ) → (object_class_fits syntax value ≡ true) ↔ RightObjectClass syntax value
unfolding object_class_fits any_below all_below same_bytes object_classes part padded zeros hex_bytes hex_digit text
object_classes_lem syntax value = (listed, fits)
  where
    listed : object_class_fits syntax value ≡ true → RightObjectClass syntax value
    listed h =
        let s = (says_object_class_fits syntax value).holds h in
        subst₂ RightObjectClass s.is.0 (sym s.is.1) (values_listed s.at s.below)

    fits : {a : ℕ} {v : List ℕ} → RightObjectClass a v → object_class_fits a v ≡ true
    fits one = refl
    fits seven = refl
    fits seven_too = refl
    fits thirteen = refl
    fits fourteen = refl
    fits fourteen_too = refl

-- ---- links

link_syntaxes : (row : List ℕ) → ¬ (link_of row ≡ 0) → (link_syntax_wrong row ≡ false) ↔ LinkSyntax (link_of row % 2) (syntax_of row)
unfolding link_syntax_wrong
link_syntaxes row present = (
  λ e. listed ((says_link_syntax_fits row).holds (not-false (link_syntax_fits row) e)),
  λ h. says_false (says_link_syntax_wrong row) (λ bad. bad (fits h refl refl)),
)
  where
    listed : LinkSyntaxFits row → LinkSyntax (link_of row % 2) (syntax_of row)
    listed h = go (ℕ_discrete (link_of row % 2) 1)
      where
        at : {a b : ℕ} → LinkSyntax a b → link_of row % 2 ≡ a → syntax_of row ≡ b → LinkSyntax (link_of row % 2) (syntax_of row)
        at x p q = subst₂ LinkSyntax (sym p) (sym q) x

        go : Dec (link_of row % 2 ≡ 1) → LinkSyntax (link_of row % 2) (syntax_of row)
        go (yes odd) = at odd_name odd (h.odd odd)
        go (no d) =
            let even : link_of row % 2 ≡ 0 = omega arith in
            ⊎_elim (at even_name even) (⊎_elim (at even_name_with_binary even) (at even_name_with_string even)) (h.even present even)

    fits : {a b : ℕ} → LinkSyntax a b → link_of row % 2 ≡ a → syntax_of row ≡ b → LinkSyntaxFits row
    fits even_name p q = record { even = λ d z. inl q; odd = λ odd. absurd (omega arith) }
    fits even_name_with_binary p q = record { even = λ d z. inr (inl q); odd = λ odd. absurd (omega arith) }
    fits even_name_with_string p q = record { even = λ d z. inr (inr q); odd = λ odd. absurd (omega arith) }
    fits odd_name p q = record { even = λ d even. absurd (omega arith); odd = λ z. q }

link_absent : (row : List ℕ) → link_of row ≡ 0 → link_syntax_wrong row ≡ false
link_absent row e =
    says_false (says_link_syntax_wrong row) (λ bad. bad (record { even = λ present z. absurd (present e); odd = λ odd. absurd (omega arith) }))

link_rule : (added : Added) (m : Schema) (k : ℕ) → LinkRule added m k
unfolding numbered
link_rule added m k = record { present = link_syntaxes (m.attributes.row k); absent = link_absent (m.attributes.row k); no_class = refl }

-- ---- inheritance

module _ (m : Schema) (k : ℕ) where
  -- one of 38, 39 and 40: row 0 never breaks it
  under_class : (x : Inheritance) → 0 < inheritance_number x → ¬ (RootIllegal x (category_of (m.classes.row k)))
      → (inheritance_wrong (inheritance_number x) m.classes k ≡ true) ↔ UnderClass m k (Illegal x)
  under_class x some never =
      let says = says_inheritance_wrong m.classes k x some in
      (λ e. ⊎_elim (λ q. absurd (never q.1)) (λ q. q) (says.holds e), λ h. says.passes (inr h))

  root_class : (inheritance_wrong 21 m.classes k ≡ true) ↔ ((k ≡ 0) × ¬ (category_of (m.classes.row k) ≡ 2))
  root_class =
      let says = says_inheritance_wrong m.classes k RootNotAbstract (omega arith) in
      (λ e. ⊎_elim (λ q. q) (λ q. absurd q.1.1) (says.holds e), λ h. says.passes (inl h))

inheritance_rules : (added : Added) (m : Schema) (k : ℕ) → InheritanceRules added m k
unfolding numbered
inheritance_rules added m k = record {
  root = root_class m k;
  abstract = under_class m k AbstractUnderOther (omega arith) (λ f. f);
  auxiliary = under_class m k AuxiliaryUnderStructural (omega arith) (λ f. f);
  structural = under_class m k StructuralUnderAuxiliary (omega arith) (λ f. f);
  no_attribute = refl;
}

-- ---- names

-- two bytes are folded to one exactly if they are one, or one is the other's small letter
folds : (b c : ℕ) → folded b ≡ folded c → (b ≡ c) ⊎ (SmallOf b c ⊎ SmallOf c b)
unfolding folded
folds b c e = go (says_split (says_between 65 90 b)) (says_split (says_between 65 90 c))
  where
    go : ((between 65 90 b ≡ true) × ((65 ≤ b) × (b ≤ 90))) ⊎ ((between 65 90 b ≡ false) × ¬ ((65 ≤ b) × (b ≤ 90)))
        → ((between 65 90 c ≡ true) × ((65 ≤ c) × (c ≤ 90))) ⊎ ((between 65 90 c ≡ false) × ¬ ((65 ≤ c) × (c ≤ 90)))
        → (b ≡ c) ⊎ (SmallOf b c ⊎ SmallOf c b)
    go (inl p) (inl q) = let r : b + 32 ≡ c + 32 = (rw (p.0, q.0) at e) in inl (omega arith)
    go (inl p) (inr q) = let r : b + 32 ≡ c = (rw (p.0, q.0) at e) in inr (inl (p.1, sym r))
    go (inr p) (inl q) = let r : b ≡ c + 32 = (rw (p.0, q.0) at e) in inr (inr (q.1, r))
    go (inr p) (inr q) = inl (rw (p.0, q.0) at e)

pub small_folds : {b c : ℕ} → SmallOf b c → folded b ≡ folded c
small_folds {b} {c} h = folded_upper b h.0.0 h.0.1 ∙ sym h.1 ∙ sym (folded_other c (λ q. omega arith))

letters_same : (b c : ℕ) → (same_name (b ∷ []) (c ∷ []) ≡ true) ↔ ((b ≡ c) ⊎ (SmallOf b c ⊎ SmallOf c b))
letters_same b c = (
  λ h. folds b c (((says_same_name (b ∷ []) (c ∷ [])).holds h).bytes 0 (omega arith)),
  λ h. (says_same_name (b ∷ []) (c ∷ [])).passes
      (record { lengths = refl; bytes = below (none also ⊎_elim (ap folded) (⊎_elim small_folds (λ q. sym (small_folds q))) h) }),
)

names : NameTables
unfolding list_below valid_name same_name is_letter is_name_byte folded between all_below text
names = record { begins = refl; goes_on = refl; alphabets = refl; letters_same = letters_same }

pub paper_tables : PaperTables
unfolding rank position
paper_tables = record {
  judging = refl;
  ranks = refl;
  unused = refl;
  names = names;
  categories = computed.categories;
  inheritance_rules = inheritance_rules;
  syntax_pairs_lem = syntax_pairs_lem;
  object_classes_lem = object_classes_lem;
  defaults = computed.defaults;
  range_rule = range_rule;
  link_rule = link_rule;
  base_bit = base_bit;
  attribute_read_lem = computed.attribute_read_lem;
  attribute_cells = computed.attribute_cells;
  class_read_lem = computed.class_read_lem;
  class_cells = computed.class_cells;
  change_lists = computed.change_lists;
}
