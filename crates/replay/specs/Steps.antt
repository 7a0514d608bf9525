-- The steps of a script. "Steps, numbers most significant byte first: 01 load (u32 length, sheet), 02 plain change (u32
-- length, change), 03 quick change (the same), 04 audit, 05 write (u32 length of the output lent ..), 06 depth (u16), 07 poke (u8 store 0..2, u32
-- offset, u8 byte), 08 resize (u8 store, u32 length; ..)." A step that is cut, has an unknown code, names no store or asks for more than the longest
-- stops the player.
use Rattle.std.specs.Prelude.{ℕ, cond, List, [], ◌∷◌, length, take, drop, ◌==◌, nat_lt, slice_index, Option, Some, None, option_and_then}
use denote.Ref.{Bor}
use Rattle.prelude.specs.BigEndian.{big_endian}
use Rattle.replay.specs.declared.step.Call.{Call}
use Rattle.replay.specs.declared.step.Call.TheVariants.{Load, PlainChange, QuickChange}
use Rattle.replay.specs.declared.step.StoreId.{StoreId}
use Rattle.replay.specs.declared.step.StoreId.TheVariants.{Attributes, Classes, Closure}
use Rattle.replay.specs.declared.step.Step.{Step}
use Rattle.replay.specs.declared.step.Step.TheVariants.{Called, Audit, Write, Depth, Poke, Resize}
use Rattle.replay.specs.Size.{size_of}

-- a step as a script says it: of a call that is lent bytes, the bytes themselves
pub data Said : Type 0 where
  a_call : Call → List ℕ → Said
  an_audit : Said
  a_write : ℕ → Said
  a_depth : ℕ → Said
  a_poke : StoreId → ℕ → ℕ → Said
  a_resize : StoreId → ℕ → Said

abbrev pub said : Step → Said
said (Called call bytes) = a_call call bytes.now
said Audit = an_audit
said (Write n) = a_write n
said (Depth c) = a_depth c
said (Poke store offset byte) = a_poke store offset byte
said (Resize store n) = a_resize store n

-- a step and the script behind it, as they are read
abbrev pub seen : Option (Step × Bor (List ℕ)) → Option (Said × List ℕ)
seen None = None
seen (Some r) = Some (said r.0, r.1.now)

-- "u8 store 0..2"
abbrev pub store_id : ℕ → Option StoreId
store_id b = cond (b == 0) (Some Attributes) (cond (b == 1) (Some Classes) (cond (b == 2) (Some Closure) None))

-- ---- a step behind its code, and the script behind it

-- a call that is lent n bytes
abbrev pub lent_in : Call → ℕ → List ℕ → Option (Said × List ℕ)
lent_in call n s = cond (nat_lt (length s) n) None (Some (a_call call (take n s), drop n s))

abbrev pub called_in : Call → List ℕ → Option (Said × List ℕ)
called_in call s = cond (nat_lt (length s) 4) None (lent_in call (big_endian 4 0 s) (drop 4 s))

abbrev pub write_in : List ℕ → Option (Said × List ℕ)
write_in s = cond (nat_lt (length s) 4) None (option_and_then (λ n. Some (a_write n, drop 4 s)) (size_of (big_endian 4 0 s)))

abbrev pub depth_in : List ℕ → Option (Said × List ℕ)
depth_in s = cond (nat_lt (length s) 2) None (Some (a_depth (big_endian 2 0 s), drop 2 s))

abbrev pub poke_in : List ℕ → Option (Said × List ℕ)
poke_in s =
    cond (nat_lt (length s) 6) None
    (option_and_then (λ store. Some (a_poke store (big_endian 4 1 s) (slice_index s 5), drop 6 s)) (store_id (slice_index s 0)))

abbrev pub resize_in : List ℕ → Option (Said × List ℕ)
resize_in s =
    cond (nat_lt (length s) 5) None
    (option_and_then (λ store. option_and_then (λ n. Some (a_resize store n, drop 5 s)) (size_of (big_endian 4 1 s))) (store_id (slice_index s 0)))

-- the step that a script begins with, by its code, and the script behind it
abbrev pub step_in : List ℕ → Option (Said × List ℕ)
step_in [] = None
step_in (code ∷ s) =
    cond (code == 1) (called_in Load s)
    (cond (code == 2) (called_in PlainChange s)
    (cond (code == 3) (called_in QuickChange s)
    (cond (code == 4) (Some (an_audit, s))
    (cond (code == 5) (write_in s)
    (cond (code == 6) (depth_in s)
    (cond (code == 7) (poke_in s)
    (cond (code == 8) (resize_in s) None)))))))
