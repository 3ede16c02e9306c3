pub mod SiloJournal
