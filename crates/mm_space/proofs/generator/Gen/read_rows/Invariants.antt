use Rattle.std.proofs.Common.{ℕ, ◌≡◌, ◌≤◌, List, length}
use Rattle.std.specs.Prelude.{All}
use Rattle.mm_field.specs.Vectors.{AreDigits}
use Rattle.mm_space.specs.VectorText.{IsGenText}
use Rattle.mm_space.proofs.GenTextLemmas.{front_text, Remains}
use Rattle.mm_space.proofs.generator.Gen.read_rows.Given as goal

abbrev pub invariant-loop-k : goal.invariant-loop-k
invariant-loop-k l = record {
  count : length l.rows ≡ l.k;
  few : l.k ≤ 6;
  shown : l.bytes ≡ front_text l.rows l.rest;
  digits : All (λ v. AreDigits l.f v) l.rows;
  short : All (λ v. length v ≤ 18) l.rows;
  remains : (others : List (List ℕ)) → IsGenText l.f others l.bytes → Remains l.k others l.rest;
}
