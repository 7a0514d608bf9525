-- Rules 17 to 21, 23 and 38 to 40 depend only on the rows that the tables hold.
use Rattle.std.specs.Prelude.{Bool, ◌&&◌, ◌||◌, ◌≡◌, ℕ, ◌<◌, ltb}
use Rattle.std.proofs.Math.Bool.{cond, not}
use mathlib.Core.List.{List}
use Rattle.std.proofs.Math.Path.{refl, ap}
use Rattle.std.proofs.Common.{◌∙◌}
use Rattle.std.proofs.Math.Dec.{eqb}
use Rattle.prelude.specs.BelowLaws.{any_cong}
use Rattle.schema.specs.Numbers.{class_limit, limit}
use Rattle.schema.specs.AttributeRow.{syntax_of, is_single_valued}
use Rattle.schema.specs.ClassRow.{category_of, superclass_of}
use Rattle.schema.specs.Store.{Table}
use Rattle.schema.specs.declared.number.TableId.TheVariants.{Classes}
use Rattle.schema.specs.declared.number.TableId.{TableId}
use Rattle.tables.specs.Same.{Same}
use Rattle.tables.specs.SameLaws.{row_same, live_same}
use Rattle.tables.specs.declared.named.ClassList.{ClassList}
use Rattle.tables.specs.declared.named.ClassList.TheVariants.{Auxiliaries, Superiors}
use Rattle.tables.specs.Named.{lists, names}
use Rattle.rules_class.specs.Live.{superclass_late, class_wrong, lists_itself, naming_wrong, names_dead, not_live}
use Rattle.rules_class.specs.Category.{class88, list_category, category_wrong, inheritance, root_inheritance, inheritance_of, answer_number}
use Rattle.rules_class.specs.Category.{inheritance_wrong, other_category, wrongly_listed}
use Rattle.schema.specs.declared.number.AttributeNumber.{AttributeNumber}
use Rattle.std.specs.Prelude.{Option, Some, None}

module _ {t u : Table} (s : Same t u) where
  -- ---- of any row

  -- rule 17, and rule 18 in part
  pub not_live_same : (of : TableId) (row : List ℕ) → not_live of t row ≡ not_live of u row
  unfolding not_live names_dead
  not_live_same of row = any_cong (limit of) _ _ (λ n l. ap (λ (q : Bool). names of row n && not q) (live_same s row n))

  -- rules 19 and 20
  pub category_wrong_same : (kind : ClassList) (row : List ℕ) → category_wrong kind t row ≡ category_wrong kind u row
  unfolding category_wrong wrongly_listed other_category
  category_wrong_same kind row =
      any_cong class_limit _ _
      (λ n l. ap (λ (q : Bool). lists kind row n && q)
      (row_same s n (λ b r. b && not (eqb (category_of r) class88 || eqb (category_of r) (list_category kind))) (λ x y. refl)))

  -- rule 23
  pub naming_wrong_same : (named : Option AttributeNumber) → naming_wrong t named ≡ naming_wrong u named
  unfolding naming_wrong
  naming_wrong_same (Some n) = row_same s n.0 (λ b r. b && not (eqb (syntax_of r) 12 && is_single_valued r)) (λ x y. refl)
  naming_wrong_same None = refl

  -- ---- of a row that is there

  module _ (k : ℕ) (l : k < t.count) where
    -- rule 18
    pub class_wrong_same : class_wrong t k ≡ class_wrong u k
    unfolding class_wrong
    class_wrong_same =
        ap (λ (q : Bool). q || superclass_late k (t.row k)) (not_live_same Classes (t.row k))
        ∙ ap (λ (r : List ℕ). not_live Classes u r || superclass_late k r) (s.rows k l)

    pub lists_itself_same : lists_itself t k ≡ lists_itself u k
    unfolding lists_itself
    lists_itself_same = ap (λ (r : List ℕ). lists Auxiliaries r k || lists Superiors r k) (s.rows k l)

    -- rules 21, 38, 39 and 40
    inheritance_of_same : inheritance_of t k ≡ inheritance_of u k
    unfolding inheritance_of
    inheritance_of_same =
        ap (λ (r : List ℕ). cond (eqb k 0) (root_inheritance (category_of r))
        (cond (ltb (superclass_of r) t.count) (inheritance (category_of r) (category_of (t.row (superclass_of r)))) None)) (s.rows k l)
        ∙ ap (cond (eqb k 0) (root_inheritance (category_of (u.row k))))
        (row_same s (superclass_of (u.row k)) (λ b r. cond b (inheritance (category_of (u.row k)) (category_of r)) None) (λ x y. refl))

    pub inheritance_wrong_same : (number : ℕ) → inheritance_wrong number t k ≡ inheritance_wrong number u k
    unfolding inheritance_wrong
    inheritance_wrong_same number = ap (λ i. eqb (answer_number i) number) inheritance_of_same
