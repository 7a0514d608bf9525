use Prim.Native.Nat.{◌+◌, ◌*◌, ◌<◌, ◌≤◌}
use Rattle.schema.specs.Numbers.{limit, table_of, number_of}
use Rattle.schema.specs.Layout.{row_width}
use Rattle.schema.specs.declared.number.RowId.{RowId}
use Rattle.schema.specs.declared.number.RowId.TheVariants.{Attribute, Class}
use native.Mathlib.Omega.{arith}
use Rattle.schema.proofs.store.row_start.Goals as goal

-- far below what a number of the machine can hold
start_small : (id : RowId) → number_of id < limit (table_of id) → row_width (table_of id) * number_of id + 2 ≤ 1000000
start_small (Attribute a) l = omega (arith, l)
start_small (Class c) l = omega (arith, l)

pub overflow_mul-result : goal.overflow_mul-result
overflow_mul-result c =
    record {
      fits = (let w = start_small c.args.id c.requires in rw (c.row_width.ensures, c.table_of.ensures, c.number_of.ensures)
          (omega (arith, w)));
    }

pub overflow_add-result : goal.overflow_add-result
overflow_add-result c =
    record {
      fits = (let w = start_small c.args.id c.requires in rw (c.row_width.ensures, c.table_of.ensures, c.number_of.ensures)
          (omega (arith, w)));
    }

pub returns : goal.returns
returns c =
    rw (c.row_width.ensures, c.table_of.ensures, c.number_of.ensures)
