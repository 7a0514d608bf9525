-- Facts of every table, each one test computed over it.
use Rattle.std.specs.Prelude.{◌≡◌, refl, Bool, true, not, ◌&&◌, List, [], ◌∷◌, ℕ, ◌≤◌, ◌<◌, eqb, length, get_or}
use Rattle.std.proofs.Common.{arith}
use Rattle.rows_format.specs.Encodings.{room, sound, skippable}
use Rattle.rows_format.specs.Columns.{mark, column_width, clear, sound_column, laid, Fits}
use Rattle.rows_format.proofs.ColumnsLaws.{laid_at}
use Rattle.rows_format.specs.Formats.{common_columns, attribute_columns, class_columns, range_columns, name_columns, target_columns, entry_columns}
use Rattle.rows_format.specs.Formats.{own_columns, columns_of, format_width}
use Rattle.rows_format.specs.declared.column.Column.{Column}
use Rattle.rows_format.specs.declared.column.Test.TheVariants.{Any}
use Rattle.rows_format.specs.declared.column.Encoding.TheVariants.{Plain}
use Rattle.rows_format.specs.declared.column.Presence.TheVariants.{Required}
use Rattle.schema.specs.declared.number.TableId.TheVariants.{Attributes, Classes}
use Rattle.rows_format.specs.declared.format.Format.{Format}
use Rattle.rows_format.specs.declared.format.Format.TheVariants.{Row, NewRow, Range, Name, Target, Entry}

-- the cells of each table stand side by side and fill its row
pub format_laid : (format : Format) → laid (columns_of format) 0 (format_width format) ≡ true
unfolding laid columns_of own_columns format_width common_columns attribute_columns class_columns range_columns name_columns target_columns entry_columns
    column_width mark room sound_column sound clear skippable
format_laid (Row Attributes) = refl
format_laid (Row Classes) = refl
format_laid (NewRow Attributes) = refl
format_laid (NewRow Classes) = refl
format_laid Range = refl
format_laid Name = refl
format_laid Target = refl
format_laid Entry = refl

-- the column that a loop over a table would give past its end, a column of zeros
abbrev pub zero_column : Column
zero_column = record { tag = 0; presence = Required; encoding = Plain 0 Any; at = 0 }

-- the column that a loop over a format's table has come to
pub fits_item : (format : Format) (items : List Column) (i : ℕ) (none : Column) {n : ℕ} → items ≡ columns_of format → i < length items
    → format_width format ≤ n → Fits n (get_or items i none)
fits_item format items i none e l w =
    let f = laid_at items none 0 (format_width format) i (rw e (format_laid format)) l in record { within = omega (arith, f.within); sound = f.sound }

-- no table is long
pub format_few : (format : Format) → length (columns_of format) ≤ 64
unfolding columns_of own_columns common_columns attribute_columns class_columns range_columns name_columns target_columns entry_columns
format_few (Row Attributes) = omega arith
format_few (Row Classes) = omega arith
format_few (NewRow Attributes) = omega arith
format_few (NewRow Classes) = omega arith
format_few Range = omega arith
format_few Name = omega arith
format_few Target = omega arith
format_few Entry = omega arith

-- no column has the tag
unfoldable pub without : ℕ → List Column → Bool
without tag [] = true
without tag (r ∷ rs) = not (eqb r.tag tag) && without tag rs

-- the tags of a table differ
unfoldable pub distinct : List Column → Bool
distinct [] = true
distinct (r ∷ rs) = without r.tag rs && distinct rs

pub format_distinct : (format : Format) → distinct (columns_of format) ≡ true
unfolding distinct without columns_of own_columns common_columns attribute_columns class_columns range_columns name_columns target_columns entry_columns
format_distinct (Row Attributes) = refl
format_distinct (Row Classes) = refl
format_distinct (NewRow Attributes) = refl
format_distinct (NewRow Classes) = refl
format_distinct Range = refl
format_distinct Name = refl
format_distinct Target = refl
format_distinct Entry = refl
