pub mod ContentInfos
pub mod Digests
pub mod EvenOctets
pub mod KeyReading
pub mod KeyStores
pub mod Numbers
pub mod Secrets
