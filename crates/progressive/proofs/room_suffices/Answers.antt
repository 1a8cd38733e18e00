-- `progressive::room_suffices` meets its contract: the law is proved in `Room`. Assumes nothing.
use Rattle.progressive.proofs.Room.{room_suffices_lem}
use Rattle.progressive.proofs.room_suffices.Goals as goal

pub returns : goal.returns
returns c = room_suffices_lem
