-- What the judge's answer is: its number is the first rule that some row breaks; 0 exactly where no row breaks any; the place is the lowest row.
use Rattle.std.specs.Prelude.{Bool, true, false, ◌||◌, List, [], ◌∷◌, ◌↔◌, ◌⊎◌, ◌≡◌, refl, ℕ, ◌+◌, ◌≤◌, ◌<◌, length, get_or}
use Rattle.std.specs.Prelude.{drop, map, Option, None, Some, Result, Ok, Err, is_err}
use Rattle.std.proofs.Common.{inl, inr, ⊎_elim, sym, ap, ap₂, subst, ◌∙◌, arith}
use Rattle.std.proofs.lemmas.Bool.{false≢true}
use Rattle.std.proofs.lemmas.List.{get_or-map, length-map}
use Rattle.prelude.specs.SaysLaws.{says_true, says_false, says_lt, neither, true_or_false}
use Rattle.prelude.specs.BelowLaws.{first_some, first_absent, any_none, any_false, first_any}
use Rattle.prelude.specs.First.{◌when◌, first_of, NoneHolds}
use Rattle.prelude.specs.FirstLaws.{first_hit, first_miss, first_none, zero_iff_none}
use Rattle.schema.specs.declared.answer.Answer.{Answer}
use Rattle.schema.specs.declared.number.TableId.{TableId}
use Rattle.schema.specs.declared.number.TableId.TheVariants.{Attributes, Classes}
use Rattle.schema.specs.Answers.{broken_by, passed, table_number}
use Rattle.schema.specs.declared.number.RowId.{RowId}
use Rattle.schema.specs.declared.refusal.Refusal.{Refusal}
use Rattle.schema.specs.declared.refusal.Refusal.TheVariants.{ShortStore}
use Rattle.schema.specs.Numbers.{number_of, table_of}
use Rattle.schema.specs.Refused.{refusal_number}
use Rattle.schema.specs.RefusedLaws.{number_some}
use Rattle.schema.specs.Store.{Schema, table}
use Rattle.rules.specs.declared.judge.Broken.{Broken}
use Rattle.rules.specs.declared.row.Added.{Added}
use Rattle.rules.specs.Rules.{Rule, schema_rules, no_rule, numbered, rules_of, Each}
use Rattle.rules.specs.RulesLaws.{rules_next, rules_end, numbered_number, nonzero}
use Rattle.rules.specs.Found.{row_found, row_answer, judge_answer}
use Rattle.rules.specs.Judge.{breaks_in, first_row, judge_table, judge_rule, judge_rules, judged, broken, broken_cases, Kept, AllKept, Lowest, FirstBroken}

-- ---- one rule, by case

module _ (r : Rule) (m : Schema) (else : Answer) where
  table_hit : (t : TableId) → breaks_in r m t ≡ true → judge_table r m t else ≡ broken_by r.number t (first_row r m t)
  unfolding judge_table
  table_hit t e = rw e

  table_miss : (t : TableId) → breaks_in r m t ≡ false → judge_table r m t else ≡ else
  unfolding judge_table
  table_miss t e = rw e

module _ (r : Rule) (m : Schema) (else : Answer) where
  judge_attribute : breaks_in r m Attributes ≡ true → judge_rule r m else ≡ broken_by r.number Attributes (first_row r m Attributes)
  unfolding judge_rule
  judge_attribute e = table_hit r m (judge_table r m Classes else) Attributes e

  judge_class : breaks_in r m Attributes ≡ false → breaks_in r m Classes ≡ true → judge_rule r m else ≡ broken_by r.number Classes (first_row r m Classes)
  unfolding judge_rule
  judge_class e f = table_miss r m (judge_table r m Classes else) Attributes e ∙ table_hit r m else Classes f

  pub judge_neither : breaks_in r m Attributes ≡ false → breaks_in r m Classes ≡ false → judge_rule r m else ≡ else
  unfolding judge_rule
  judge_neither e f = table_miss r m (judge_table r m Classes else) Attributes e ∙ table_miss r m else Classes f

judge_none : (m : Schema) → judge_rules [] m ≡ passed
unfolding judge_rules
judge_none m = refl

judge_more : (r : Rule) (rs : List Rule) (m : Schema) → judge_rules (r ∷ rs) m ≡ judge_rule r m (judge_rules rs m)
unfolding judge_rules
judge_more r rs m = refl

-- a rule is kept exactly where neither table has a row that breaks it
kept_not : (m : Schema) (r : Rule) → Kept m r → (breaks_in r m Attributes ≡ false) × (breaks_in r m Classes ≡ false)
kept_not m r h = (any_false (r.breaks m Attributes) m.attributes.count (h Attributes), any_false (r.breaks m Classes) m.classes.count (h Classes))

not_kept : (m : Schema) (r : Rule) → breaks_in r m Attributes ≡ false → breaks_in r m Classes ≡ false → Kept m r
not_kept m r e f Attributes = any_none (r.breaks m Attributes) m.attributes.count e
not_kept m r e f Classes = any_none (r.breaks m Classes) m.classes.count f

-- ---- the whole list

-- the number is that of the first rule that some row breaks
pub judge_number : (rs : List Rule) (m : Schema) → (judge_rules rs m).number ≡ first_of (broken_cases rs m)
judge_number [] m = ap (λ (x : Answer). x.number) (judge_none m) ∙ sym first_none
judge_number (r ∷ rs) m = ap (λ (x : Answer). x.number) (judge_more r rs m)
    ∙ go (judge_number rs m) (breaks_in r m Attributes) (breaks_in r m Classes) refl refl
  where
    go : (judge_rules rs m).number ≡ first_of (broken_cases rs m) → (x y : Bool) → breaks_in r m Attributes ≡ x → breaks_in r m Classes ≡ y
        → (judge_rule r m (judge_rules rs m)).number ≡ first_of (broken_cases (r ∷ rs) m)
    go ih true y p q =
        ap (λ (x : Answer). x.number) (judge_attribute r m (judge_rules rs m) p)
        ∙ sym (first_hit (r.number when broken m r) (broken_cases rs m) (ap (λ (b : Bool). b || breaks_in r m Classes) p))
    go ih false true p q =
        ap (λ (x : Answer). x.number) (judge_class r m (judge_rules rs m) p q)
        ∙ sym (first_hit (r.number when broken m r) (broken_cases rs m) (ap (λ (b : Bool). b || breaks_in r m Classes) p ∙ q))
    go ih false false p q =
        ap (λ (x : Answer). x.number) (judge_neither r m (judge_rules rs m) p q) ∙ ih
        ∙ sym (first_miss (r.number when broken m r) (broken_cases rs m) (ap (λ (b : Bool). b || breaks_in r m Classes) p ∙ q))

-- no case holds exactly where every rule is kept
pub kept_none : (m : Schema) (rs : List Rule) → Each (Kept m) rs → NoneHolds (broken_cases rs m)
kept_none m [] h = tt
kept_none m (r ∷ rs) h = let k = kept_not m r h.0 in (ap (λ (b : Bool). b || breaks_in r m Classes) k.0 ∙ k.1, kept_none m rs h.1)

pub none_kept : (m : Schema) (rs : List Rule) → NoneHolds (broken_cases rs m) → Each (Kept m) rs
none_kept m [] h = tt
none_kept m (r ∷ rs) h = let s = neither (breaks_in r m Attributes) (breaks_in r m Classes) h.0 in (not_kept m r s.0 s.1, none_kept m rs h.1)

-- every rule is kept: no table and no place is named
pub kept_passed : (m : Schema) (rs : List Rule) → Each (Kept m) rs → judge_rules rs m ≡ passed
kept_passed m [] h = judge_none m
kept_passed m (r ∷ rs) h =
    let k = kept_not m r h.0 in
    judge_more r rs m ∙ judge_neither r m (judge_rules rs m) k.0 k.1 ∙ kept_passed m rs h.1

-- either no row breaks a rule, or the answer names the first rule that is broken and the lowest row that breaks it
lowest_row : (m : Schema) (r : Rule) (t : TableId) → breaks_in r m t ≡ true
    → ((u : TableId) → table_number u < table_number t → (j : ℕ) → j < (table u m).count → r.breaks m u j ≡ false)
    → Lowest m r t (first_row r m t)
lowest_row m r t e first = let f = first_some (r.breaks m t) (table t m).count e in record { below = f.0; breaks = f.1; none = f.2; first = first }

pub first_or_kept : (m : Schema) (rs : List Rule) → Each (Kept m) rs ⊎ FirstBroken m rs (judge_rules rs m)
first_or_kept m [] = inl tt
first_or_kept m (r ∷ rs) =
    subst (λ (x : Answer). Each (Kept m) (r ∷ rs) ⊎ FirstBroken m (r ∷ rs) x) (sym (judge_more r rs m))
    (go (first_or_kept m rs) (breaks_in r m Attributes) (breaks_in r m Classes) refl refl)
  where
    no_table : (u : TableId) → table_number u < 1 → (j : ℕ) → j < (table u m).count → r.breaks m u j ≡ false
    no_table Attributes l = absurd (omega arith)
    no_table Classes l = absurd (omega arith)

    attributes_first : breaks_in r m Attributes ≡ false → (u : TableId) → table_number u < 2 → (j : ℕ) → j < (table u m).count → r.breaks m u j ≡ false
    attributes_first p Attributes l = any_none (r.breaks m Attributes) m.attributes.count p
    attributes_first p Classes l = absurd (omega arith)

    go : Each (Kept m) rs ⊎ FirstBroken m rs (judge_rules rs m) → (x y : Bool) → breaks_in r m Attributes ≡ x → breaks_in r m Classes ≡ y
        → Each (Kept m) (r ∷ rs) ⊎ FirstBroken m (r ∷ rs) (judge_rule r m (judge_rules rs m))
    go ih true y p q =
        inr (subst (FirstBroken m (r ∷ rs)) (sym (judge_attribute r m (judge_rules rs m) p))
        (FirstBroken.here Attributes (first_row r m Attributes) (lowest_row m r Attributes p no_table)))
    go ih false true p q =
        inr (subst (FirstBroken m (r ∷ rs)) (sym (judge_class r m (judge_rules rs m) p q))
        (FirstBroken.here Classes (first_row r m Classes) (lowest_row m r Classes q (attributes_first p))))
    go (inl k) false false p q = inl (not_kept m r p q, k)
    go (inr f) false false p q = inr (subst (FirstBroken m (r ∷ rs)) (sym (judge_neither r m (judge_rules rs m) p q)) (FirstBroken.later (not_kept m r p q) f))

-- ---- one number after the other, as the code goes

-- the answer of one rule names a table exactly where some row breaks it
module _ (r : Rule) (m : Schema) (x : Answer) where
  judge_hit : ¬ ((judge_rule r m passed).table ≡ 0) → judge_rule r m x ≡ judge_rule r m passed
  judge_hit d = go (breaks_in r m Attributes) (breaks_in r m Classes) refl refl
    where
      go : (p q : Bool) → breaks_in r m Attributes ≡ p → breaks_in r m Classes ≡ q → judge_rule r m x ≡ judge_rule r m passed
      go true q e f = judge_attribute r m x e ∙ sym (judge_attribute r m passed e)
      go false true e f = judge_class r m x e f ∙ sym (judge_class r m passed e f)
      go false false e f = absurd (d (ap (λ (y : Answer). y.table) (judge_neither r m passed e f)))

  judge_miss : (judge_rule r m passed).table ≡ 0 → judge_rule r m x ≡ x
  judge_miss z = go (breaks_in r m Attributes) (breaks_in r m Classes) refl refl
    where
      go : (p q : Bool) → breaks_in r m Attributes ≡ p → breaks_in r m Classes ≡ q → judge_rule r m x ≡ x
      go true q e f = absurd (let h : 1 ≡ (judge_rule r m passed).table = sym (ap (λ (y : Answer). y.table) (judge_attribute r m passed e)) in omega arith)
      go false true e f = absurd (let h : 2 ≡ (judge_rule r m passed).table = sym (ap (λ (y : Answer). y.table) (judge_class r m passed e f)) in omega arith)
      go false false e f = judge_neither r m x e f

-- the answer of the rule of a number, from the lowest rows
module _ (rs : List Rule) (n : ℕ) (m : Schema) where
  abbrev its : Rule
  its = numbered rs n

  some_row : (t : TableId) (k : ℕ) → k ≡ first_row its m t → k < (table t m).count → breaks_in its m t ≡ true
  some_row t k e l = sym (first_any (its.breaks m t) (table t m).count) ∙ says_true (says_lt (first_row its m t) (table t m).count) (omega arith)

  no_row : (t : TableId) (k : ℕ) → k ≡ first_row its m t → (table t m).count ≤ k → breaks_in its m t ≡ false
  no_row t k e l = sym (first_any (its.breaks m t) (table t m).count) ∙ says_false (says_lt (first_row its m t) (table t m).count) (λ h. omega arith)

  module _ (a : ℕ) (lowest : a ≡ first_row its m Attributes) where
    pub answer_attribute : a < m.attributes.count → broken_by n Attributes a ≡ judge_rule its m passed
    answer_attribute l = sym (judge_attribute its m passed (some_row Attributes a lowest l) ∙ rw (numbered_number rs n, lowest))

    module _ (none : m.attributes.count ≤ a) (c : ℕ) (lowestClass : c ≡ first_row its m Classes) where
      pub answer_class : c < m.classes.count → broken_by n Classes c ≡ judge_rule its m passed
      answer_class l = sym (judge_class its m passed (no_row Attributes a lowest none) (some_row Classes c lowestClass l)
          ∙ rw (numbered_number rs n, lowestClass))

      pub answer_none : m.classes.count ≤ c → passed ≡ judge_rule its m passed
      answer_none l = sym (judge_neither its m passed (no_row Attributes a lowest none) (no_row Classes c lowestClass l))

module _ (rs : List Rule) (ns : List ℕ) (m : Schema) (i : ℕ) where
  pub judge_found : i < length ns → ¬ ((judge_rule (numbered rs (get_or ns i 0)) m passed).table ≡ 0)
      → judge_rules (rules_of rs (drop i ns)) m ≡ judge_rule (numbered rs (get_or ns i 0)) m passed
  judge_found l d =
      ap (λ (x : List Rule). judge_rules x m) (rules_next rs ns i l)
      ∙ judge_more (numbered rs (get_or ns i 0)) (rules_of rs (drop (i + 1) ns)) m
      ∙ judge_hit (numbered rs (get_or ns i 0)) m (judge_rules (rules_of rs (drop (i + 1) ns)) m) d

  pub judge_next : i < length ns → (judge_rule (numbered rs (get_or ns i 0)) m passed).table ≡ 0
      → judge_rules (rules_of rs (drop i ns)) m ≡ judge_rules (rules_of rs (drop (i + 1) ns)) m
  judge_next l z =
      ap (λ (x : List Rule). judge_rules x m) (rules_next rs ns i l)
      ∙ judge_more (numbered rs (get_or ns i 0)) (rules_of rs (drop (i + 1) ns)) m
      ∙ judge_miss (numbered rs (get_or ns i 0)) m (judge_rules (rules_of rs (drop (i + 1) ns)) m) z

  pub judge_over : length ns ≤ i → judge_rules (rules_of rs (drop i ns)) m ≡ passed
  judge_over l = ap (λ (x : List Rule). judge_rules x m) (rules_end rs ns i l) ∙ judge_none m

-- ---- one refusal after the other, as the code goes

-- the lowest row of a table, as the code finds it
module _ (r : Rule) (m : Schema) (t : TableId) {o : Option ℕ} (found : o ≡ row_found r m t) where
  pub found_row : (k : ℕ) → o ≡ Some k → (k ≡ first_row r m t) × (k < (table t m).count)
  found_row k e = ⊎_elim some none (true_or_false (breaks_in r m t))
    where
      some : breaks_in r m t ≡ true → (k ≡ first_row r m t) × (k < (table t m).count)
      some b =
          let same : Some k ≡ Some (first_row r m t) = sym e ∙ found ∙ rw b refl in
          let is : k ≡ first_row r m t = cc same in
          (is, omega (arith, (first_some (r.breaks m t) (table t m).count b).0))

      none : breaks_in r m t ≡ false → (k ≡ first_row r m t) × (k < (table t m).count)
      none b = let same : Some k ≡ None = sym e ∙ found ∙ rw b refl in absurd (cc same)

  pub found_no_row : o ≡ None → (table t m).count ≤ first_row r m t
  found_no_row e = ⊎_elim some none (true_or_false (breaks_in r m t))
    where
      some : breaks_in r m t ≡ true → (table t m).count ≤ first_row r m t
      some b = let same : None ≡ Some (first_row r m t) = sym e ∙ found ∙ rw b refl in absurd (cc same)

      none : breaks_in r m t ≡ false → (table t m).count ≤ first_row r m t
      none b = omega (arith, first_absent (r.breaks m t) (table t m).count b)

-- rule i of an order
module _ (rs : List Rule) (order : List Refusal) (m : Schema) (i : ℕ) (there : i < length order) where
  abbrev kind : Refusal
  kind = get_or order i ShortStore

  number_there : i < length (map refusal_number order)
  number_there = omega (arith, length-map order refusal_number)

  its_number : get_or (map refusal_number order) i 0 ≡ refusal_number kind
  its_number = get_or-map refusal_number order i ShortStore 0 there

  its_answer : (o : Option RowId) → row_answer (refusal_number kind) o ≡ judge_rule (numbered rs (refusal_number kind)) m passed
      → row_answer (refusal_number kind) o ≡ judge_rule (numbered rs (get_or (map refusal_number order) i 0)) m passed
  its_answer o a = a ∙ ap (λ n. judge_rule (numbered rs n) m passed) (sym its_number)

  pub broken_found : {o : Option RowId} (id : RowId) → row_answer (refusal_number kind) o ≡ judge_rule (numbered rs (refusal_number kind)) m passed
      → o ≡ Some id → broken_by (refusal_number kind) (table_of id) (number_of id) ≡ judge_rules (rules_of rs (drop i (map refusal_number order))) m
  broken_found {o} id a e =
      let b : broken_by (refusal_number kind) (table_of id) (number_of id) ≡ judge_rule (numbered rs (get_or (map refusal_number order) i 0)) m passed =
      sym (ap (row_answer (refusal_number kind)) e) ∙ its_answer o a in
      b ∙ sym (judge_found rs (map refusal_number order) m i number_there (λ z. no_table (table_of id) (ap (λ (x : Answer). x.table) b ∙ z)))
    where
      no_table : (t : TableId) → ¬ (table_number t ≡ 0)
      no_table Attributes e = omega arith
      no_table Classes e = omega arith

  pub broken_next : {o : Option RowId} → row_answer (refusal_number kind) o ≡ judge_rule (numbered rs (refusal_number kind)) m passed → o ≡ None
      → judge_rules (rules_of rs (drop i (map refusal_number order))) m ≡ judge_rules (rules_of rs (drop (i + 1) (map refusal_number order))) m
  broken_next {o} a e =
      judge_next rs (map refusal_number order) m i number_there
      (ap (λ (x : Answer). x.table) (sym (its_answer o a) ∙ ap (row_answer (refusal_number kind)) e))

-- ---- what the judge found, by whether it found a row

pub found_number : {A : Type 0} (r : Result A Broken) → is_err r ≡ true → ¬ ((judge_answer r).number ≡ 0)
found_number (Ok x) e z = absurd (false≢true e)
found_number (Err b) e z = number_some b.rule z

pub sound_number : {A : Type 0} (r : Result A Broken) → is_err r ≡ false → (judge_answer r).number ≡ 0
sound_number (Ok x) e = refl
sound_number (Err b) e = absurd (false≢true (sym e))

-- ---- rules 12 to 29

-- 0 is the number exactly where no row breaks any of the rules
pub judged_zero : (added : Added) (m : Schema) → ((judged added m).number ≡ 0) ↔ AllKept added m
unfolding judged
judged_zero added m =
    let rs = schema_rules added in
    let z = zero_iff_none (broken_cases rs m) (nonzero added (broken m)) in
    (λ e. none_kept m rs (z.0 (sym (judge_number rs m) ∙ e)), λ h. judge_number rs m ∙ z.1 (kept_none m rs h))

pub judged_passed : (added : Added) (m : Schema) → AllKept added m → judged added m ≡ passed
unfolding judged
judged_passed added m = kept_passed m (schema_rules added)

pub judged_first : (added : Added) (m : Schema) → AllKept added m ⊎ FirstBroken m (schema_rules added) (judged added m)
unfolding judged
judged_first added m = first_or_kept m (schema_rules added)

-- a rule that no row breaks is not broken
pub none_broken : (m : Schema) (n : ℕ) → broken m (no_rule n) ≡ false
none_broken m n =
    ap₂ (λ (x y : Bool). x || y) (any_false (λ k. false) m.attributes.count (λ k l. refl)) (any_false (λ k. false) m.classes.count (λ k l. refl))

-- the judge's number is that of the first rule that some row breaks
pub judged_number : (added : Added) (m : Schema) → (judged added m).number ≡ first_of (broken_cases (schema_rules added) m)
unfolding judged
judged_number added m = judge_number (schema_rules added) m
