-- A rule that compares rows by a key, and that no row breaks, is passed.
use mathlib.Core.Bool.{Bool, true, false, not, ◌&&◌, true≢false}
use mathlib.Core.Path.{◌≡◌, refl, sym}
use Prim.Native.Nat.{ℕ}
use Rattle.prelude.specs.Unlike.{among}
use Rattle.prelude.specs.SaysLaws.{neither}
use Rattle.schema.specs.Answers.{passed}
use Rattle.schema.specs.Store.{Schema}
use Rattle.schema.specs.declared.number.TableId.TheVariants.{Attributes, Classes}
use Rattle.rules.specs.declared.row.Added.{Added}
use Rattle.rules.specs.Rules.{numbered, schema_rules}
use Rattle.rules.specs.Judge.{breaks_in, broken, judge_rule}
use Rattle.rules.proofs.JudgeLaws.{judge_neither}
use Rattle.rules.specs.Clear.{is_clear, key_numbers}

pub clear_passed : (added : Added) (m : Schema) (n : ℕ) → is_clear added m n ≡ true → judge_rule (numbered (schema_rules added) n) m passed ≡ passed
unfolding is_clear
clear_passed added m n e =
    let none = neither (breaks_in (numbered (schema_rules added) n) m Attributes) (breaks_in (numbered (schema_rules added) n) m Classes)
    (unbroken (among key_numbers n) (broken m (numbered (schema_rules added) n)) e) in
    judge_neither (numbered (schema_rules added) n) m passed none.0 none.1
  where
    unbroken : (a b : Bool) → (a && not b) ≡ true → b ≡ false
    unbroken true true q = sym q
    unbroken true false q = refl
    unbroken false b q = absurd (true≢false (sym q))
