mod SiloJournal
