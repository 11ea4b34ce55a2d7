-- Layer B, one command at a time. Shown here: each command keeps card, memory and disk in the relation to the ledger, stores what
-- the ledger says, and answers by the first of the ledger's conditions that holds.
pub mod CardFrames
pub mod CardFresh
pub mod CardRules
pub mod CardWrite
pub mod CardClose
pub mod CardStore
pub mod CardCheckpoint
pub mod CardCut
pub mod CardFormat
pub mod CardRecover
pub mod CardAnswers
pub mod PhaseAnswers
