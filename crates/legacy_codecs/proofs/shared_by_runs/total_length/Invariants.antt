use Rattle.std.proofs.Common.{◌≡◌, ◌+◌, ◌<◌, ◌^◌, ℕ, All, drop, get_or, length, map}
use Rattle.std.specs.Prelude.{sum_by}
use Rattle.legacy_codecs.proofs.shared_by_runs.total_length.Given as goal

abbrev pub invariant-loop-piece : goal.invariant-loop-piece
invariant-loop-piece g l = record {
  sum : l.total + sum_by length (map g.P.Piece.units (drop l.piece-index l.pieces)) ≡ sum_by length (map g.P.Piece.units l.pieces);
  small : l.total < 2 ^ 64;
  sound : (k : ℕ) (d : _) → k < l.piece-index → All g.P.Piece.is_item (g.P.Piece.items (get_or l.pieces k d));
}
