-- What a step answers and leaves. A player has three stores and an output, of which the calls are lent every byte.
-- "The stores start with their lengths and 16 bytes A5 past each, all else zero."
use Rattle.std.specs.Prelude.{ℕ, ◌-◌, cond, List, ◌++◌, length, take, replicate, nat_lt, slice_set}
use Rattle.schema.specs.Layout.{store_length, closure_length}
use Rattle.schema.specs.Store.{Stores, stores, Result}
use Rattle.schema.specs.declared.answer.Answer.{Answer}
use Rattle.schema.specs.declared.number.TableId.TheVariants as table
use Rattle.schema.specs.Answers.{passed}
use Rattle.keeper.specs.Audit.{audit}
use Rattle.keeper.specs.Depth.{depth}
use Rattle.keeper.specs.Load.{load}
use Rattle.keeper.specs.Write.{Written, write}
use Rattle.keeper_change.specs.Plain.{plain_change}
use Rattle.keeper_change.specs.Quick.{quick_change}
use Rattle.replay.specs.declared.step.Call.{Call}
use Rattle.replay.specs.declared.step.Call.TheVariants.{Load, PlainChange, QuickChange}
use Rattle.replay.specs.declared.step.StoreId.{StoreId}
use Rattle.replay.specs.declared.step.StoreId.TheVariants.{Attributes, Classes, Closure}
use Rattle.replay.specs.declared.player.Player.{Player}
use Rattle.replay.specs.Steps.{Said, a_call, an_audit, a_write, a_depth, a_poke, a_resize}

-- bytes that no call has written
abbrev pub past_byte : ℕ
past_byte = 165

unfoldable pub past_bytes : ℕ → List ℕ
past_bytes n = replicate n past_byte

-- ---- the stores

-- what is lent of a player's stores
abbrev pub held : Player → Stores
held p = stores p.attributes.items p.classes.items p.closure.items

-- the stores, of which one is changed
abbrev pub with_store : StoreId → (List ℕ → List ℕ) → Stores → Stores
with_store Attributes f s = stores (f s.attributes) s.classes s.closure
with_store Classes f s = stores s.attributes (f s.classes) s.closure
with_store Closure f s = stores s.attributes s.classes (f s.closure)

-- ---- the steps

-- a call that is lent bytes of the script, and may write the stores
abbrev pub called : Call → List ℕ → Stores → Result
called Load bytes s = load bytes s
called PlainChange bytes s = plain_change bytes s
called QuickChange bytes s = quick_change bytes s

-- "07 poke (u8 store 0..2, u32 offset, u8 byte)"; past what is lent nothing is poked
abbrev pub poked : ℕ → ℕ → List ℕ → List ℕ
poked at byte s = cond (nat_lt at (length s)) (slice_set s at byte) s

-- "08 resize (u8 store, u32 length; cut, or lengthened by A5 bytes ..)"
unfoldable pub resized : ℕ → List ℕ → List ℕ
resized n s = take n s ++ past_bytes (n - length s)

-- ---- a step

-- its answer, and stores and output as it leaves them
pub record Played : Type 0 where
  pub answer : Answer
  pub left : Stores
  pub output : List ℕ

abbrev pub played : Answer → Stores → List ℕ → Played
played a s out = record { answer = a; left = s; output = out }

abbrev pub played_call : Result → List ℕ → Played
played_call r out = played r.answer r.left out

abbrev pub played_write : Written → Stores → Played
played_write w s = played w.answer s w.output

-- "05 write (u32 length of the output lent ..)", "whose bytes start as A5"; "(poke, resize: 0 0 0)"
abbrev pub play_step : Said → Stores → List ℕ → Played
play_step (a_call call bytes) s out = played_call (called call bytes s) out
play_step an_audit s out = played (audit s) s out
play_step (a_write n) s out = played_write (write s (past_bytes n)) s
play_step (a_depth c) s out = played (depth s c) s out
play_step (a_poke store at byte) s out = played passed (with_store store (poked at byte) s) out
play_step (a_resize store n) s out = played passed (with_store store (resized n) s) out

-- ---- the start

-- so many bytes are lent past each store's length at first
abbrev pub spare : ℕ
spare = 16

unfoldable pub first_bytes : ℕ → List ℕ
first_bytes n = replicate n 0 ++ past_bytes spare

abbrev pub first_stores : Stores
first_stores = stores (first_bytes (store_length table.Attributes)) (first_bytes (store_length table.Classes)) (first_bytes closure_length)
