pub mod OneAKey
