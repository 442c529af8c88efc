pub mod Loops
pub mod Spellable
pub mod Codecs
pub mod Entries
pub mod FieldLaws
pub mod BodyLaws
pub mod MadeLaws
pub mod InterfaceLaws
