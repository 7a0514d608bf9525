-- What reading a class number tells, and the parts of a row's number.
use Rattle.std.specs.Prelude.{Bool, true, false, cond, ◌≡◌, refl, ℕ, ◌≤◌, ◌<◌, ltb}
use Rattle.std.proofs.lemmas.Bool.{false≢true}
use Rattle.std.proofs.Common.{sym, ap, ◌∙◌, arith, ltb-true, ltb-false}
use Rattle.prelude.specs.Says.{Says}
use Rattle.prelude.specs.SaysLaws.{says_eq, says_and}
use Rattle.schema.specs.declared.number.ClassNumber.{ClassNumber}
use Rattle.schema.specs.declared.number.TableId.{TableId}
use Rattle.schema.specs.declared.number.TableId.TheVariants.{Attributes, Classes}
use Rattle.schema.specs.Numbers.{class_limit, attribute_limit, limit, class_read, row_id, table_of, number_of, same_table, same_row, SameRow, number_read}
use Rattle.schema.specs.declared.number.RowId.{RowId}
use Rattle.std.specs.Prelude.{Some, None}

pub class_is : (n : ℕ) (c : ClassNumber) → class_read n ≡ Some c → (n ≡ c.0) × (n < class_limit)
class_is n c e = go (ltb n class_limit) refl
  where
    go : (b : Bool) → ltb n class_limit ≡ b → (n ≡ c.0) × (n < class_limit)
    go true q = let same : record { 0 = n } ≡ c = cc in (ap (λ (d : ClassNumber). d.0) same, ltb-true n class_limit q)
    go false q = let no : ◌≡◌ {A = ℕ} 0 1 = cc in absurd (omega arith)

pub class_beyond : (n : ℕ) → class_read n ≡ None → class_limit ≤ n
class_beyond n e = go (ltb n class_limit) refl
  where
    go : (b : Bool) → ltb n class_limit ≡ b → class_limit ≤ n
    go true q = let no : ◌≡◌ {A = ℕ} 0 1 = cc in absurd (omega arith)
    go false q = ltb-false n class_limit q

-- a number of either table
pub number_is : (t : TableId) (n : ℕ) {id : RowId} → number_read t n ≡ Some id → (id ≡ row_id t n) × (n < limit t)
number_is t n {id} e = go (ltb n (limit t)) refl
  where
    go : (b : Bool) → ltb n (limit t) ≡ b → (id ≡ row_id t n) × (n < limit t)
    go true q = (
      let same : Some id ≡ Some (row_id t n) = sym e ∙ ap (λ (b : Bool). cond b (Some (row_id t n)) None) q in cc,
      ltb-true n (limit t) q,
    )
    go false q = let no : ◌≡◌ {A = ℕ} 0 1 = cc (sym e ∙ ap (λ (b : Bool). cond b (Some (row_id t n)) None) q) in absurd (omega arith)

pub number_beyond : (t : TableId) (n : ℕ) → number_read t n ≡ None → limit t ≤ n
number_beyond t n e = go (ltb n (limit t)) refl
  where
    go : (b : Bool) → ltb n (limit t) ≡ b → limit t ≤ n
    go true q = let no : ◌≡◌ {A = ℕ} 0 1 = cc (sym e ∙ ap (λ (b : Bool). cond b (Some (row_id t n)) None) q) in absurd (omega arith)
    go false q = ltb-false n (limit t) q

pub id_table : (t : TableId) (k : ℕ) → table_of (row_id t k) ≡ t
id_table Attributes k = refl
id_table Classes k = refl

pub id_number : (t : TableId) (k : ℕ) → number_of (row_id t k) ≡ k
id_number Attributes k = refl
id_number Classes k = refl

-- no table can hold more than the attributes'
pub limit_most : (t : TableId) → limit t ≤ attribute_limit
limit_most Attributes = omega arith
limit_most Classes = omega arith

-- no row of one table is a row of the other
pub apart : Attributes ≡ Classes → ⊥
apart e = let no : ◌≡◌ {A = ℕ} 0 1 = cc in omega arith

pub says_same_table : (t u : TableId) → Says (same_table t u) (t ≡ u)
unfolding same_table
says_same_table Attributes Attributes = record { holds = λ e. refl; passes = λ e. refl }
says_same_table Attributes Classes = record { holds = λ e. absurd (false≢true e); passes = λ e. absurd (apart e) }
says_same_table Classes Attributes = record { holds = λ e. absurd (false≢true e); passes = λ e. absurd (apart (sym e)) }
says_same_table Classes Classes = record { holds = λ e. refl; passes = λ e. refl }

pub says_same_row : (t : TableId) (k : ℕ) (u : TableId) (j : ℕ) → Says (same_row t k u j) (SameRow t k u j)
unfolding same_row
says_same_row t k u j = says_and (says_same_table t u) (says_eq k j)
