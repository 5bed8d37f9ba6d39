mod ReachedSoFar
mod ToldSoFar
