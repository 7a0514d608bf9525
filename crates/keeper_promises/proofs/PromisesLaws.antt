-- The promises, kept: each demand, with no assumption left.
use Rattle.schema.specs.AnswersLaws.{same_told}
use Rattle.schema.specs.OrderLaws.{rank_apart}
use Rattle.sheet_read.proofs.StoppingLaws.{sheet_stops}
use Rattle.rules.proofs.MeetsLaws.{kept_met}
use Rattle.change_read.specs.StoppingLaws.{change_stops}
use Rattle.keeper_promises.specs.Demand3.{Demand3}
use Rattle.keeper_promises.proofs.Demand3Laws.{agreement}
use Rattle.keeper_promises.specs.Promises.{Demand1, Demand2}
use Rattle.sheet_round_trip.specs.LongestLaws as longest
use Rattle.keeper_promises.specs.AlikeLaws as alike
use Rattle.keeper_promises.specs.AloneLaws as apart
use Rattle.keeper_promises.specs.BytesLaws as bytes
use Rattle.keeper_promises.specs.CallLaws as calls
use Rattle.keeper_promises.specs.FrontLaws as front
use Rattle.keeper_promises.specs.LoadLaws as loads
use Rattle.keeper_promises.specs.OrderLaws as order
use Rattle.keeper_promises.specs.PlacedLaws as placed
use Rattle.keeper_promises.specs.PlainFrontLaws as plainly
use Rattle.keeper_promises.specs.PlainLaws as plain
use Rattle.keeper_promises.specs.QuickAlikeLaws as both
use Rattle.keeper_promises.specs.QuickFrontLaws as quickly
use Rattle.keeper_promises.specs.QuickLaws as quick
use Rattle.keeper_promises.specs.ReadingLaws as reading
use Rattle.keeper_promises.specs.RoundTripLaws as trips
use Rattle.keeper_promises.specs.StoppingLaws as stopping

pub demand1 : Demand1
demand1 = record {
  load_one = loads.load_one;
  load_empty = loads.load_empty;
  load_past = λ sheet s b. front.load_past sheet b s;
  load_alone = λ sheet s b. front.load_alone sheet b s;
  audit_alike = alike.audit_alike;
  depth_alike = alike.depth_alike;
  write_alike = alike.write_alike;
  plain_kept = plain.plain_kept;
  quick_kept = quick.quick_kept;
  plain_past = λ x s bytes. plainly.plain_past x bytes s;
  quick_past = λ x s bytes. quickly.quick_past x bytes s;
  plain_alike = λ x s t bytes. plainly.plain_alike x bytes s t;
  quick_alike = λ x s t bytes h. both.quick_alike x s t h bytes;
  load_bytes = bytes.load_bytes;
  plain_bytes = λ x s bytes. plainly.plain_bytes x bytes s;
  quick_bytes = λ x s bytes. quickly.quick_bytes x bytes s;
  write_kept = calls.write_kept;
}

pub demand2 : Demand2
demand2 = record {
  sheet_stops = sheet_stops;
  change_stops = change_stops;
  ranks_apart = rank_apart;
  load_placed = placed.load_placed;
  audit_placed = placed.audit_placed;
  write_placed = placed.write_placed;
  depth_placed = placed.depth_placed;
  plain_placed = placed.plain_placed;
  quick_placed = placed.quick_placed;
  rule_met = kept_met;
  load_zero = loads.load_zero;
  load_done = loads.load_done;
  load_order = loads.load_order;
  load_audits = loads.load_audits;
  load_four = stopping.load_four;
  load_unreadable = stopping.load_unreadable;
  load_six = stopping.load_six;
  load_full = stopping.load_full;
  load_limit = stopping.load_limit;
  load_rule = loads.load_rule;
  load_least = loads.load_least;
  plain_zero = plain.plain_zero;
  plain_rows = plain.plain_rows;
  plain_order = plain.plain_ordered;
  plain_done = plain.plain_done;
  plain_one = plain.plain_one;
  plain_two = plain.plain_two;
  plain_three = plain.plain_three;
  plain_four = stopping.plain_four;
  plain_unreadable = stopping.plain_unreadable;
  plain_field = reading.plain_field;
  plain_value = reading.plain_value;
  plain_target = reading.plain_target;
  plain_refused = plain.plain_refused;
  plain_least = plain.plain_least;
  quick_one = quick.quick_one;
  quick_two = quick.quick_two;
  quick_four = stopping.quick_four;
  quick_unreadable = stopping.quick_unreadable;
  audit_zero = order.audit_zero;
  audit_done = order.audit_done;
  audit_one = order.audit_one;
  audit_two = order.audit_two;
  audit_rule = order.audit_rule;
  audit_least = order.audit_least;
  audit_three = order.audit_three;
  write_one = calls.write_one;
  write_two = calls.write_two;
  write_done = calls.write_done;
  write_needs = calls.write_needs;
  load_longest = longest.read_longest;
  write_longest = trips.write_longest;
  depth_one = calls.depth_one;
  depth_two = calls.depth_two;
  depth_five = calls.depth_five;
  depth_beyond = calls.depth_beyond;
  depth_steps = λ s c k long shape. calls.depth_steps s c long shape k;
  depth_late = calls.depth_late;
  chain_ends = calls.chain_ends;
  depth_order = calls.depth_order;
  write_load = trips.write_load;
  plain_write_load = plainly.plain_write_load;
  load_write_load = trips.load_write_load;
  load_write = trips.load_write;
  load_writes = λ sheet s out b long h exact. trips.load_writes sheet s b long h exact out;
}

pub demand3 : Demand3
demand3 = record { agree = agreement; alone = λ x s t h. same_told (apart.quick_alone x s t h) }
