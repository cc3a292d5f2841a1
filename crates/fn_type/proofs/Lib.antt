mod Other
