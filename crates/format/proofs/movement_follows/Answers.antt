use Rattle.std.proofs.Common.{sym}
use Rattle.format.proofs.Movements.{moves_alike}
use Rattle.format.proofs.movement_follows.Goals as goal

pub returns : goal.returns
returns c k at vs es b r = (
  moves_alike (λ d. d.x) (λ m. m.x) (λ d m e f. sym e) k at vs es b r,
  moves_alike (λ d. d.y) (λ m. m.y) (λ d m e f. sym f) k at vs es b r,
)
