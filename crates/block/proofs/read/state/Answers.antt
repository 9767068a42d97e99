-- Field by field.
use Rattle.block.proofs.Loading.{sound-room, loaded}
use Rattle.block.proofs.read.state.Goals as goal

pub unreachable-requires : goal.unreachable-requires
unreachable-requires c = c.in_default.ensures.cases (sound-room c.requires).0

pub returns : goal.returns
returns c =
    let same = c.in-Some.ensures.cases.same in
    loaded c.requires (rw same at c.part.ensures) (rw same at c.part-2.ensures) (rw same at c.meters_from.ensures) (rw same at c.entries_from.ensures) (rw same at c.maps_from.ensures)
