use mathlib.Core.Path.{◌≡◌, ◌∙◌}
use Prim.Native.Nat.{ℕ, ◌<◌}
use borrow.Author.Tests.{lt-ltb, not-true, not-false}
use Rattle.schema.specs.Numbers.{attribute_limit, attribute_read}
use Rattle.schema.specs.ClassRow.{naming_of}
use Rattle.schema.proofs.class.naming_attribute.Goals as goal
use Rattle.std.specs.Prelude.{Some}

-- a byte is below the limit, so the constructor takes it
known : (b : ℕ) → b < attribute_limit → attribute_read b ≡ Some (record { 0 = b })
known b l = rw (lt-ltb b attribute_limit l)

pub returns-then-not-flag : goal.returns-then-not-flag
unfolding naming_of
returns-then-not-flag c =
    rw (← c.flag.ensures, not-true c.flag.result c.if-not-flag.true-raw)

pub returns : goal.returns
unfolding naming_of
returns c =
    c.new.ensures ∙ known c.byte_at.result c.byte_at.type_inv
    ∙ rw (← c.flag.ensures, not-false c.flag.result c.if-not-flag.false-raw, c.byte_at.ensures)
