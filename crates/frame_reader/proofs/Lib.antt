mod ReaderLaws
mod CallLaws
