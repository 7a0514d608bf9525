use Rattle.wire.specs.WireLaws.{field_end, field_short, field_past, field_whole}
use native.Mathlib.Omega.{arith}
use Rattle.wire.proofs.field_at.Goals as goal

pub returns-then-at-end : goal.returns-then-at-end
returns-then-at-end c =
    field_end _ _ _ c.if-at-end.true

pub returns-then-left-lt-HEADER : goal.returns-then-left-lt-HEADER
returns-then-left-lt-HEADER c =
    field_short _ _ _ (omega arith) (omega arith)

pub returns-then-left-len : goal.returns-then-left-len
returns-then-left-len c =
    field_past _ _ _ _ c.read_u16-len.ensures (omega arith) (omega arith)

pub returns : goal.returns
returns c =
    field_whole _ _ _ _ c.read_u16-len.ensures (omega arith)
