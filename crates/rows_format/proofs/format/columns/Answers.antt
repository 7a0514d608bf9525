use Rattle.std.proofs.Common.{rules}
use Rattle.rows_format.specs.Formats.{columns_of, own_columns, common_columns, attribute_columns, class_columns}
use Rattle.rows_format.specs.Formats.{range_columns, name_columns, target_columns, entry_columns}
use Rattle.rows_format.proofs.format.columns.Goals as goal

pub returns-in-Row-Attributes : goal.returns-in-Row-Attributes
unfolding columns_of own_columns common_columns attribute_columns
returns-in-Row-Attributes c =
    search rules

pub returns-in-Row-Classes : goal.returns-in-Row-Classes
unfolding columns_of own_columns common_columns class_columns
returns-in-Row-Classes c =
    search rules

pub returns-in-NewRow-Attributes : goal.returns-in-NewRow-Attributes
unfolding columns_of own_columns common_columns attribute_columns
returns-in-NewRow-Attributes c =
    search rules

pub returns-in-NewRow-Classes : goal.returns-in-NewRow-Classes
unfolding columns_of own_columns common_columns class_columns
returns-in-NewRow-Classes c =
    search rules

pub returns-in-Range : goal.returns-in-Range
unfolding columns_of range_columns
returns-in-Range c =
    search rules

pub returns-in-Name : goal.returns-in-Name
unfolding columns_of name_columns
returns-in-Name c =
    search rules

pub returns-in-Target : goal.returns-in-Target
unfolding columns_of target_columns
returns-in-Target c =
    search rules

pub returns-in-Entry : goal.returns-in-Entry
unfolding columns_of entry_columns
returns-in-Entry c =
    search rules
