-- The numbers that a call gives back, by name. Document 01, "Numbers given back" and "Schema rules", and document 02. src/refusal.rt and include/keeper.h
-- have the same names.
use Rattle.std.specs.Prelude.{ℕ}

abbrev pub done : ℕ
done = 0

-- "1 a lent store is shorter than its length"
abbrev pub short_store : ℕ
short_store = 1

-- "2 shape broken (not at load)"
abbrev pub broken_shape : ℕ
broken_shape = 2

-- "3 plain change: not in order. Audit: only kept sets are wrong"
abbrev pub not_in_order : ℕ
not_in_order = 3

-- "4 sheet or change unreadable; place is the byte offset"
abbrev pub unreadable : ℕ
unreadable = 4

-- "5 target row not there"
abbrev pub no_such_row : ℕ
no_such_row = 5

-- "6 no free row; at load, told at the row's tag, before any 4 there, with table and limit"
abbrev pub no_free_row : ℕ
no_free_row = 6

-- "7 target defunct, unless reactivated; or active and reactivated"
abbrev pub wrong_state : ℕ
wrong_state = 7

-- "8 base row, and range, display name or deactivation asked, even with equal values"
abbrev pub base_row : ℕ
base_row = 8

-- "9 an added row has 0x10 set"
abbrev pub added_base_row : ℕ
added_base_row = 9

-- "10 addition to a list: already in the open or fixed one; removal: not in the open one"
abbrev pub entry_conflict : ℕ
entry_conflict = 10

-- "11 deactivation: an active class names the attribute, or another active class names the class .. or an active back link needs it"
abbrev pub still_needed : ℕ
still_needed = 11

-- "12 Name invalid"
abbrev pub name_invalid : ℕ
name_invalid = 12

-- "13 Name taken, in either table"
abbrev pub name_taken : ℕ
name_taken = 13

-- "14 Identifier: fewer than 2 arcs; first over 2; second over 39 where the first is 0 or 1"
abbrev pub identifier_invalid : ℕ
identifier_invalid = 14

-- "15 Identifier taken"
abbrev pub identifier_taken : ℕ
identifier_taken = 15

-- "16 GUID taken"
abbrev pub guid_taken : ℕ
guid_taken = 16

-- "17 A named attribute not live."
abbrev pub attribute_not_live : ℕ
attribute_not_live = 17

-- "18 A named class not live, or a superclass that isn't earlier"
abbrev pub class_not_live : ℕ
class_not_live = 18

-- "19 An auxiliary not of category 0 or 3."
abbrev pub not_an_auxiliary : ℕ
not_an_auxiliary = 19

-- "20 A possible superior not of category 0 or 1."
abbrev pub not_a_superior : ℕ
not_a_superior = 20

-- "21 keeps 'row 0 not abstract'"
abbrev pub root_not_abstract : ℕ
root_not_abstract = 21

-- "22 The chain does not end at row 0 within 128 steps, or meets a number without a row." No call gives it: where 18 is met every chain ends. Document 02:
-- "The number is not used again."

-- "23 The naming attribute isn't 2.5.5.12 and single-valued."
abbrev pub naming_unfit : ℕ
naming_unfit = 23

-- "24 A present mAPIID is taken."
abbrev pub mapi_taken : ℕ
mapi_taken = 24

-- "25 Both ranges present", and, as document 02 has it, "only where rangeLower is greater than rangeUpper"
abbrev pub range_crossed : ℕ
range_crossed = 25

-- "26 Syntax and oMSyntax don't match"
abbrev pub syntax_misfit : ℕ
syntax_misfit = 26

-- "27 oMSyntax 127 with a wrong oMObjectClass."
abbrev pub object_class_wrong : ℕ
object_class_wrong = 27

-- "28 A present linkID is taken."
abbrev pub link_taken : ℕ
link_taken = 28

-- "29 An odd linkID without a live attribute holding the number one less"
abbrev pub link_alone : ℕ
link_alone = 29

-- "30 some present class's mandatory set would differ"
abbrev pub mandatory_differs : ℕ
mandatory_differs = 30

-- "31 write: output too short; place is the length needed"
abbrev pub short_output : ℕ
short_output = 31

-- "38 is abstract under another kind, 39 auxiliary under structural, 40 structural under auxiliary"
abbrev pub abstract_under_other : ℕ
abstract_under_other = 38

abbrev pub auxiliary_under_structural : ℕ
auxiliary_under_structural = 39

abbrev pub structural_under_auxiliary : ℕ
structural_under_auxiliary = 40

-- "45, a schema rule after 29": "a present even linkID needs 2.5.5.1, 2.5.5.7 or 2.5.5.14, an odd one 2.5.5.1"
abbrev pub link_syntax_unfit : ℕ
link_syntax_unfit = 45
