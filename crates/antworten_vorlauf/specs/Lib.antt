pub mod VorlaufReading
pub mod Vorlauf
