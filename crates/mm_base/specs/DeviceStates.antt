-- What the sources and sinks over memory hold.
use Rattle.std.specs.Prelude.{ℕ, List}

-- A source over memory: what is left, how much one read gives at most, the numbers of the calls that fail,
-- how many calls were made (up to 2 ^ 64 - 1), and how many failed.
pub record SourceState : Type 0 where
  pub left : List ℕ
  pub piece : ℕ
  pub fails : List ℕ
  pub calls : ℕ
  pub faults : ℕ

-- A sink over memory: what it holds, and else as a source.
pub record SinkState : Type 0 where
  pub held : List ℕ
  pub piece : ℕ
  pub fails : List ℕ
  pub calls : ℕ
  pub faults : ℕ
