-- Laws of the rules of WRITE: the one that it meets, and room.
pub mod RuleLaws
pub mod RoomLaws
