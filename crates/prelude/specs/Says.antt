-- A test, and the statement that it decides.
use Rattle.std.specs.Prelude.{◌≡◌, Bool, true}

-- The test b is true exactly where P holds. A record and no pair of functions, so that b and P can be found from it.
pub record Says (b : Bool) (P : Type 0) : Type 0 where
  pub holds : b ≡ true → P
  pub passes : P → b ≡ true
