-- Laws that the proof of CUT cites.
pub mod CutLaws
